use Rattle.std.proofs.Common.{◌≡◌, ℕ, length}
use Rattle.spool.specs.Lists.{records}
use Rattle.slots.specs.Slots.{once, spares}
use Rattle.slots.proofs.table.SlotTable.new.Given as goal

-- the slots so far are free, each once
abbrev pub invariant-loop-slot : goal.invariant-loop-slot
invariant-loop-slot l =
    (length l.numbers ≡ 32) × (length (records l.free l.numbers) ≡ l.slot)
    × ((slot : ℕ) → spares slot (records l.free l.numbers) ≡ once slot l.slot)
