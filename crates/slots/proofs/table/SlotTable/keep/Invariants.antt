use Rattle.std.proofs.Common.{◌≡◌, ◌≤◌, take}
use Rattle.slots.specs.Tables.{slot_count, used_rows}
use Rattle.slots.proofs.table.SlotTable.keep.Given as goal

-- the rows from the place reached on are out
abbrev pub invariant-loop-at : goal.invariant-loop-at
invariant-loop-at l =
    (used_rows l.self ≡ take l.at (used_rows l.initial.self)) × (slot_count l.self ≡ slot_count l.initial.self) × (l.len ≤ l.at)
