use Rattle.std.proofs.Common.{◌≡◌, ◌++◌, map, take, drop}
use Rattle.packed.specs.Packing.{lowered}
use Rattle.packed.proofs.log.edit.lower.Given as goal

-- the rows before the one reached are lowered, and the others are as they were
abbrev pub invariant-loop-row : goal.invariant-loop-row
invariant-loop-row l = l.rows ≡ map (lowered l.by) (take l.row-index l.fn.rows) ++ drop l.row-index l.fn.rows
