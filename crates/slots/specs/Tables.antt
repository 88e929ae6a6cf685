-- What a slot table holds.
use Rattle.std.specs.Prelude.{ℕ, List, length, vec_items}
use Rattle.spool.specs.Lists.{records}
use Rattle.slots.specs.declared.row.SlotRow.{SlotRow}
use Rattle.slots.specs.declared.table.SlotTable.{SlotTable}

-- The rows of its entries, in filing order.
abbrev pub used_rows : SlotTable → List SlotRow
used_rows t = records t.used (vec_items t.rows)

-- A slot for each row of its memory.
abbrev pub slot_count : SlotTable → ℕ
slot_count t = length (vec_items t.rows)
