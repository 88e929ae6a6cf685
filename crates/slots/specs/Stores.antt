-- What a slot store means: the entries held, the lot, room, and which memories make one.
use Rattle.std.specs.Prelude.{◌≡◌, ℕ, ◌*◌, ◌/◌, ◌%◌, ◌≤◌, cond, List, map, length, take, drop, Some, None, vec_items, Option, nat_le, nat_lt}
use Rattle.spool.specs.Entries.{Entry}
use Rattle.spool.specs.Lots.{filed_in, held_in, lot_in, part_in}
use Rattle.refusals.specs.Refusals.{fault}
use Rattle.spool.specs.declared.entry.Part.{Part}
use Rattle.refusals.specs.declared.refusal.Cause.TheVariants.{LongPayload, NoSlot}
use Rattle.refusals.specs.declared.refusal.RoomFault.{RoomFault}
use Rattle.slots.specs.Tables.{slot_count, used_rows}
use Rattle.slots.specs.declared.row.SlotRow.{SlotRow}
use Rattle.slots.specs.declared.store.SlotStore.{SlotStore}

-- The memory of a lawful store: 1 to 32 rows, and octets that are cut evenly into a slot of 512 to 65,536 for each.
pub record LawfulSlots (octets rows : ℕ) : Type 0 where
  pub rows_low : 1 ≤ rows
  pub rows_high : rows ≤ 32
  pub even : octets % rows ≡ 0
  pub size_low : 512 ≤ octets / rows
  pub size_high : octets / rows ≤ 65536

-- The entry of a row: its payload lies at the front of its slot.
abbrev pub view : List ℕ → ℕ → SlotRow → Entry
view octets size r = record { mailbox = r.mailbox; payload = take r.length (drop (r.slot * size) octets) }

-- Every entry, held and then staged, in filing order.
abbrev pub entries : SlotStore → List Entry
entries s = map (view (vec_items s.octets) s.size) (used_rows s.table)

-- Of these, what is held, and the lot of what is staged; how many are held, and the rows of each part.
abbrev pub held_of : SlotStore → List Entry
held_of s = held_in s.lot (entries s)

abbrev pub lot_of : SlotStore → Option (List Entry)
lot_of s = lot_in s.lot (entries s)

abbrev pub filed_of : SlotStore → ℕ
filed_of s = filed_in s.lot (length (used_rows s.table))

abbrev pub part_rows : Part → SlotStore → List SlotRow
part_rows part s = part_in part s.lot (used_rows s.table)

-- How many slots it has.
abbrev pub slots_of : SlotStore → ℕ
slots_of s = slot_count s.table

-- Room needs a payload within a slot and, where it is, fewer entries than slots.
abbrev pub room_among : ℕ → ℕ → ℕ → ℕ → Option RoomFault
room_among size slots used n = cond (nat_le n size) (cond (nat_lt used slots) None (Some (fault NoSlot))) (Some (fault LongPayload))

abbrev pub room_for : SlotStore → ℕ → ℕ → Option RoomFault
room_for s m n = room_among s.size (slots_of s) (length (entries s)) n

-- The floor is the slot size.
abbrev pub floor_of : SlotStore → ℕ
floor_of s = s.size
