use Rattle.std.proofs.Common.{[], map, take}
use Rattle.ends.specs.Filing.{entry}
use Rattle.ends.specs.Ledgers.{Counted}
use Rattle.ends.proofs.ledger.Ledger.note_all.Given as goal

abbrev pub invariant-loop-r : goal.invariant-loop-r
invariant-loop-r l = Counted l.initial.self l.self (map (entry []) (take l.r-index l.recipients))
