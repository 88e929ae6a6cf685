-- What a packed log means as a spool.
use Rattle.std.specs.Prelude.{ℕ, ◌-◌, ◌≤◌, cond, List, length, take, Some, None, vec_items, Option, nat_le, nat_lt}
use Rattle.spool.specs.Entries.{Entry}
use Rattle.spool.specs.Lots.{filed_in, held_in, lot_in, part_in}
use Rattle.refusals.specs.Refusals.{fault}
use Rattle.spool.specs.declared.entry.Part.{Part}
use Rattle.refusals.specs.declared.refusal.Cause.TheVariants.{NoOctets, NoRow}
use Rattle.refusals.specs.declared.refusal.RoomFault.{RoomFault}
use Rattle.packed.specs.Packing.{cut}
use Rattle.packed.specs.declared.log.PackedLog.{PackedLog}
use Rattle.packed.specs.declared.row.LogRow.{LogRow}

-- The memory of a lawful log: 512 to 65,536 octets and 1 to 256 rows.
pub record LawfulLog (octets rows : ℕ) : Type 0 where
  pub octets_low : 512 ≤ octets
  pub octets_high : octets ≤ 65536
  pub rows_low : 1 ≤ rows
  pub rows_high : rows ≤ 256

-- The row of every entry, held or staged, in order, and the entries themselves.
abbrev pub rows_of : PackedLog → List LogRow
rows_of s = take s.entries.count (vec_items s.rows)

abbrev pub entries_of : PackedLog → List Entry
entries_of s = cut (vec_items s.octets) (rows_of s)

-- Of these, what is held, and the lot of what is staged; how many are held, and the rows of each part.
abbrev pub held_of : PackedLog → List Entry
held_of s = held_in s.lot (entries_of s)

abbrev pub lot_of : PackedLog → Option (List Entry)
lot_of s = lot_in s.lot (entries_of s)

abbrev pub filed_of : PackedLog → ℕ
filed_of s = filed_in s.lot s.entries.count

abbrev pub part_rows : Part → PackedLog → List LogRow
part_rows part s = part_in part s.lot (rows_of s)

-- Too few octets are left, or else no row.
abbrev pub room_for : PackedLog → ℕ → ℕ → Option RoomFault
room_for s m n =
    cond (nat_le n (length (vec_items s.octets) - s.packed.count))
    (cond (nat_lt s.entries.count (length (vec_items s.rows))) None (Some (fault NoRow)))
    (Some (fault NoOctets))

abbrev pub floor_of : PackedLog → ℕ
floor_of s = length (vec_items s.octets)
