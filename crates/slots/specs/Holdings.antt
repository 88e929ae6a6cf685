-- What a slot store holds and has staged, and whether it has room.
use Rattle.std.specs.Prelude.{◌≡◌, ℕ, ◌+◌, ◌-◌, ◌*◌, ◌<◌, ◌≤◌, cond, [], length, Some, None, Option, ◌==◌, nat_le, nat_lt, slice_index_or, refl}
use Rattle.std.proofs.Common.{sym, ap, ◌∙◌, inl, inr, arith}
use Rattle.std.specs.List.{slice_get}
use Rattle.std.specs.Option.{option_map}
use Rattle.std.proofs.lemmas.List.{length-drop, length-map, length-take-le}
use Rattle.std.proofs.lemmas.List.Sums.{get_or-le-sum_by}
use Rattle.std.proofs.lemmas.Bool.{cases_Bool, cases_lt, cond-true, cond-false, eq-eqb, le-leb, le-ltb, lt-leb, lt-ltb, ltb-false, ltb-true}
use Rattle.std.proofs.lemmas.Option.{get_or_from_slice_get, slice_get-map, slice_get_within}
use Rattle.spool.specs.Entries.{Entry}
use Rattle.refusals.specs.Refusals.{fault}
use Rattle.spool.specs.Rules.{staged}
use Rattle.spool.specs.declared.entry.Part.{Part}
use Rattle.spool.specs.declared.entry.Part.TheVariants.{Held}
use Rattle.spool.proofs.Lots as lots
use Rattle.spool.proofs.Lots.{part_at, part_place}
use Rattle.refusals.specs.declared.refusal.Cause.TheVariants.{LongPayload, NoSlot}
use Rattle.slots.specs.Slots.{overlong, takes}
use Rattle.slots.specs.Stores.{entries, filed_of, floor_of, held_of, lot_of, part_rows, room_among, room_for, view}
use Rattle.slots.specs.Tables.{slot_count, used_rows}
use Rattle.slots.specs.declared.row.SlotRow.{SlotRow}
use Rattle.slots.specs.declared.store.SlotStore.{SlotStore}
use Rattle.slots.specs.declared.table.SlotTable.{SlotTable}
use Rattle.slots.specs.Views.{slot_below}

pub entries-length : (s : SlotStore) → length (entries s) ≡ length (used_rows s.table)
entries-length s = length-map (used_rows s.table) (view s.octets.items s.size)

pub held_length : (s : SlotStore) → length (held_of s) ≡ filed_of s
held_length s = lots.held_length s.lot (entries s) (length (used_rows s.table)) (entries-length s) s.front

pub staged-length : (s : SlotStore) → length (staged (lot_of s)) ≡ length (used_rows s.table) - filed_of s
staged-length s = lots.staged-length s.lot (entries s) (length (used_rows s.table)) (entries-length s)

-- The entry of a row.
pub entry_at_lem : (s : SlotStore) (at : ℕ) → slice_get (entries s) at ≡ option_map (view s.octets.items s.size) (slice_get (used_rows s.table) at)
entry_at_lem s at = slice_get-map (view s.octets.items s.size) (used_rows s.table) at

-- A row that stands in a table has a slot that there is, and once only.
pub slot_there : (t : SlotTable) (at : ℕ) (r : SlotRow) → slice_get (used_rows t) at ≡ Some r → r.slot < slot_count t
slot_there t at r e =
    let within = slice_get_within (used_rows t) at r e in
    let f : SlotRow → ℕ = λ x. cond (x.slot == r.slot) 1 0 in
    let one : f r ≡ 1 = cond-true {A = ℕ} (r.slot == r.slot) 1 0 (eq-eqb r.slot r.slot refl) in
    let g : f (slice_index_or (used_rows t) at r) ≤ takes r.slot (used_rows t) = get_or-le-sum_by f (used_rows t) at r within in
    elim (cases_Bool (nat_lt r.slot (slot_count t))) [
      | inl y ↦ ltb-true r.slot (slot_count t) y
      | inr n ↦ absurd (omega (arith, one, ap f (sym (get_or_from_slice_get (used_rows t) at r r e)), g, t.apart r.slot, cond-false {A = ℕ} (nat_lt r.slot (slot_count t)) 1 0 n))
    ]

-- What is known of the row of an entry.
pub record Lies (s : SlotStore) (r : SlotRow) : Type 0 where
  pub short : r.length ≤ s.size
  pub ends : r.slot * s.size + r.length ≤ length s.octets.items
  pub long : length (view s.octets.items s.size r).payload ≡ r.length

pub lies : (s : SlotStore) (at : ℕ) (r : SlotRow) → slice_get (used_rows s.table) at ≡ Some r → Lies s r
lies s at r e =
    let us = used_rows s.table in
    let within = slice_get_within us at r e in
    let f : SlotRow → ℕ = λ x. cond (nat_lt s.size x.length) 1 0 in
    let g : f (slice_index_or us at r) ≤ overlong s.size us = get_or-le-sum_by f us at r within in
    let l : r.length ≤ s.size =
    elim (cases_Bool (nat_lt s.size r.length)) [
      | inl y ↦ absurd (omega (arith, g, ap f (sym (get_or_from_slice_get us at r r e)), s.short, cond-true {A = ℕ} (nat_lt s.size r.length) 1 0 y))
      | inr n ↦ ltb-false s.size r.length n
    ] in
    let k : r.slot * s.size + r.length ≤ length s.octets.items =
    omega (arith, l, slot_below r.slot (slot_count s.table) s.size (slot_there s.table at r e), s.even) in
    record {
      short = l;
      ends = k;
      long = length-take-le r.length _ (omega (arith, length-drop (r.slot * s.size) s.octets.items));
    }

pub lies_in : (part : Part) (s : SlotStore) (at : ℕ) (r : SlotRow) → slice_get (part_rows part s) at ≡ Some r → Lies s r
lies_in part s at r n = let p = part_place part s.lot (used_rows s.table) at r n in lies s p.0 r p.1

-- No payload that is held is longer than a slot.
pub mapped_some : {X Y : Type 0} (f : X → Y) (o : Option X) (y : Y) → option_map f o ≡ Some y → (x : X) × (o ≡ Some x) × (f x ≡ y)
mapped_some f None y e = cc
mapped_some f (Some x) y e = (x, refl, cc)

pub payload_short : (s : SlotStore) (at : ℕ) (e : Entry) → slice_get (held_of s) at ≡ Some e → length e.payload ≤ s.size
payload_short s at e h =
    let r = mapped_some (view s.octets.items s.size) (slice_get (part_rows Held s) at) e (sym (part_at (view s.octets.items s.size) Held s.lot (entries s) (used_rows s.table) refl at) ∙ h) in
    let l = lies_in Held s at r.0 r.1 in
    omega (arith, l.short, l.long, ap (λ v. length v.payload) r.2)

-- Room: a payload within a slot, and fewer entries than slots.
module _ (size slots used n : ℕ) where
  pub room_there : n ≤ size → used < slots → room_among size slots used n ≡ None
  room_there a b = cond-true (nat_le n size) _ _ (le-leb n size a) ∙ cond-true (nat_lt used slots) _ _ (lt-ltb used slots b)

  pub room_full : n ≤ size → slots ≤ used → room_among size slots used n ≡ Some (fault NoSlot)
  room_full a b = cond-true (nat_le n size) _ _ (le-leb n size a) ∙ cond-false (nat_lt used slots) _ _ (le-ltb used slots b)

  pub room_long : size < n → room_among size slots used n ≡ Some (fault LongPayload)
  room_long a = cond-false (nat_le n size) _ _ (lt-leb n size a)

  pub room_fits : room_among size slots used n ≡ None → (n ≤ size) × (used < slots)
  room_fits e =
      elim (cases_lt size n) [
        | inl h ↦ let z : ◌≡◌ {A = ℕ} 0 1 = cc (e, room_long h) in absurd (omega arith)
        | inr h ↦
            elim (cases_lt used slots) [
              | inl k ↦ (h, k)
              | inr k ↦ let z : ◌≡◌ {A = ℕ} 0 1 = cc (e, room_full h k) in absurd (omega arith)
            ]
      ]

pub has_room : (s : SlotStore) (m n : ℕ) → room_for s m n ≡ None → (n ≤ s.size) × (length (used_rows s.table) < slot_count s.table)
has_room s m n e =
    let f = room_fits s.size (slot_count s.table) (length (entries s)) n e in (f.0, omega (arith, f.1, entries-length s))

pub empty_room : (s : SlotStore) → held_of s ≡ [] → staged (lot_of s) ≡ [] → (m n : ℕ) → n ≤ floor_of s → room_for s m n ≡ None
empty_room s h k m n l =
    room_there s.size (slot_count s.table) (length (entries s)) n l (omega (arith, entries-length s, ap length h, held_length s, ap length k, staged-length s, s.some))
