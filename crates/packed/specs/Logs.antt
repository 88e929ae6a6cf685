-- What is known of a packed log, from its type.
use Rattle.std.specs.Prelude.{◌≡◌, ℕ, ◌+◌, ◌-◌, ◌<◌, ◌≤◌, cond, List, [], map, length, take, drop, Some, None, Ok, nat_le, nat_lt}
use Rattle.std.proofs.Common.{sym, ap, ◌∙◌, arith}
use Rattle.std.specs.Option.{option_map}
use Rattle.std.proofs.lemmas.Option.{slice_get-map}
use Rattle.std.specs.List.{slice_get}
use Rattle.std.proofs.lemmas.List.{length-take-le, length-drop, take-take}
use Rattle.std.proofs.lemmas.Bool.Decides.{nat_tests}
use Rattle.spool.specs.Entries.{Entry}
use Rattle.refusals.specs.Refusals.{fault}
use Rattle.spool.specs.Rules.{staged, tells}
use Rattle.spool.specs.declared.entry.Part.{Part}
use Rattle.spool.proofs.Lots as lots
use Rattle.spool.proofs.Lots.{part_place}
use Rattle.spool.proofs.Told.{tells_at}
use Rattle.refusals.specs.declared.refusal.Cause.TheVariants.{NoOctets, NoRow}
use Rattle.packed.specs.Meaning.{entries_of, filed_of, held_of, lot_of, part_rows, room_for, rows_of}
use Rattle.packed.specs.Packing.{cut, told_by, total}
use Rattle.packed.specs.declared.log.PackedLog.{PackedLog}
use Rattle.packed.specs.declared.row.LogRow.{LogRow}
use Rattle.packed.specs.Cuts.{Packed, cut_rows, entry_at, length_cut, offset_nth, take-cut, total-nth}

pub packed : (s : PackedLog) → Packed s.octets.items (rows_of s) s.packed.count
packed s = record { gapless = s.no_gaps; sum = s.no_rest; fits = s.octets_fit }

pub rows-length : (s : PackedLog) → length (rows_of s) ≡ s.entries.count
rows-length s = length-take-le s.entries.count s.rows.items s.rows_fit

pub entries-length : (s : PackedLog) → length (entries_of s) ≡ s.entries.count
entries-length s = length_cut s.octets.items (rows_of s) ∙ rows-length s

pub held_length : (s : PackedLog) → length (held_of s) ≡ filed_of s
held_length s = lots.held_length s.lot (entries_of s) s.entries.count (entries-length s) s.filed_fit

pub staged-length : (s : PackedLog) → length (staged (lot_of s)) ≡ s.entries.count - filed_of s
staged-length s = lots.staged-length s.lot (entries_of s) s.entries.count (entries-length s)

-- The entry of a row, and the entries of a part by its rows.
abbrev pub entry_of : PackedLog → LogRow → Entry
entry_of s r = entry_at s.octets.items r.offset r

pub entries_by_rows : (s : PackedLog) → entries_of s ≡ map (entry_of s) (rows_of s)
entries_by_rows s = cut_rows 0 s.octets.items (rows_of s) s.no_gaps

-- What is known of a row.
pub record Known (s : PackedLog) (r : LogRow) : Type 0 where
  pub ends_in : r.offset + r.length ≤ s.packed.count
  pub long : length (entry_of s r).payload ≡ r.length

pub known_at : (s : PackedLog) (at : ℕ) (r : LogRow) → slice_get (rows_of s) at ≡ Some r → Known s r
known_at s at r n =
    let w : r.offset + r.length ≤ s.packed.count = omega (arith, offset_nth 0 (rows_of s) at r s.no_gaps n, total-nth (rows_of s) at r n, s.no_rest) in
    record {
      ends_in = w;
      long = length-take-le r.length (drop r.offset s.octets.items) (omega (arith, length-drop r.offset s.octets.items, s.octets_fit));
    }

pub known : (part : Part) (s : PackedLog) (at : ℕ) (r : LogRow) → slice_get (part_rows part s) at ≡ Some r → Known s r
known part s at r n = let p = part_place part s.lot (rows_of s) at r n in known_at s p.0 r p.1

-- A row's entry, where it begins, and what is told of it.
module _ (s : PackedLog) (at : ℕ) (r : LogRow) (n : slice_get (rows_of s) at ≡ Some r) where
  pub starts_at : r.offset ≡ total (take at (rows_of s))
  starts_at = omega (arith, offset_nth 0 (rows_of s) at r s.no_gaps n)

  pub entry_at_lem : slice_get (entries_of s) at ≡ Some (entry_at s.octets.items r.offset r)
  entry_at_lem = ap (λ v. slice_get v at) (entries_by_rows s) ∙ slice_get-map (entry_of s) (rows_of s) at ∙ ap (option_map (entry_of s)) n

  pub row_told : (es : List Entry) (k : ℕ) → slice_get es k ≡ slice_get (entries_of s) at → Ok (told_by r) ≡ tells es k
  row_told es k h =
      ap (λ w. Ok (record { mailbox = r.mailbox; length = w })) (sym (known_at s at r n).long) ∙ tells_at es k (entry_of s r) (h ∙ entry_at_lem)

pub held_rows : (s : PackedLog) → held_of s ≡ cut s.octets.items (take (filed_of s) s.rows.items)
held_rows s =
    lots.held_is s.lot (entries_of s) s.entries.count (entries-length s)
    ∙ take-cut (filed_of s) s.octets.items (rows_of s)
    ∙ ap (cut s.octets.items) (take-take (filed_of s) s.entries.count s.rows.items s.filed_fit)

-- Room, by its two conditions.
pub record Free (s : PackedLog) (n : ℕ) : Type 0 where
  pub octets : n ≤ length s.octets.items - s.packed.count
  pub row : s.entries.count < length s.rows.items

pub room_free : (s : PackedLog) (m n : ℕ) → room_for s m n ≡ None → Free s n
room_free s m n h = record { octets = grind (arith, nat_tests); row = grind (arith, nat_tests) }

pub room_of : (n a c d : ℕ) → n ≤ a → c < d → cond (nat_le n a) (cond (nat_lt c d) None (Some (fault NoRow))) (Some (fault NoOctets)) ≡ None
room_of n a c d h k = grind (arith, nat_tests)

pub free_room : (s : PackedLog) (m n : ℕ) → Free s n → room_for s m n ≡ None
free_room s m n f = grind (arith, nat_tests)

pub empty_free : (s : PackedLog) → held_of s ≡ [] → staged (lot_of s) ≡ [] → (n : ℕ) → n ≤ length s.octets.items → Free s n
empty_free s h l n k =
    let z : s.entries.count ≡ 0 = omega (arith, held_length s, staged-length s, ap length h, ap length l, s.filed_fit) in
    let t : total (rows_of s) ≡ 0 = ap (λ v. total (take v s.rows.items)) z in
    record { octets = omega (arith, t, s.no_rest); row = omega (arith, z, s.rows_low) }
