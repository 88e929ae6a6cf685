-- What is told of a kind of spool: for each value the entries held, the lot, the room and the floor.
use Rattle.spool.specs.declared.interface.Spool.{Ghosts}

abbrev pub Meaning : Type 0 → Type 1
Meaning S = Ghosts S
