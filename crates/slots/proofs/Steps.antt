-- What staging leaves of a slot store.
use Rattle.std.proofs.Common.{◌≡◌, ℕ, ◌+◌, ◌-◌, ◌*◌, ◌<◌, ◌≤◌, cond, eqb, ltb, List, [], ◌∷◌, ◌++◌, map, length, take, drop, None, refl, ap, ◌∙◌, inl, inr, arith}
use Rattle.std.specs.Vec.{with_items}
use Rattle.std.proofs.lemmas.List.{drop-drop, length-append, length-drop, length_push, length-take-le, with_items_is}
use Rattle.std.proofs.lemmas.List.Sums.{sum_by_push}
use Rattle.std.proofs.lemmas.Bool.{cases_Bool, cond-true, cond-false, eq-eqb, le-ltb, ltb-true}
use borrow.Rule.Slice.PartMut.{put_mid}
use Rattle.slots.specs.Slots.{overlong, takes}
use Rattle.slots.specs.Stores.{entries, room_for, view}
use Rattle.slots.specs.Tables.{slot_count, used_rows}
use Rattle.slots.specs.declared.row.SlotRow.{SlotRow}
use Rattle.slots.specs.declared.store.SlotStore.{SlotStore}
use Rattle.slots.specs.declared.table.SlotTable.{SlotTable}
use Rattle.slots.specs.Holdings.{has_room}
use Rattle.slots.specs.Views.{new_row, overwritten, slot_below, views_more}

-- A slot that a new row has is one that there is, and no other row has it.
pub fresh : (t t' : SlotTable) (r : SlotRow) → used_rows t' ≡ used_rows t ++ r ∷ [] → (takes r.slot (used_rows t) ≡ 0) × (r.slot < slot_count t')
fresh t t' r e =
    let f : SlotRow → ℕ = λ x. cond (eqb x.slot r.slot) 1 0 in
    let one : f r ≡ 1 = cond-true {A = ℕ} (eqb r.slot r.slot) 1 0 (eq-eqb r.slot r.slot refl) in
    let a = ap (takes r.slot) e in
    let b = sum_by_push f (used_rows t) r in
    elim (cases_Bool (ltb r.slot (slot_count t'))) [
      | inl y ↦ (omega (arith, one, a, b, t'.apart r.slot, cond-true {A = ℕ} (ltb r.slot (slot_count t')) 1 0 y), ltb-true r.slot (slot_count t') y)
      | inr n ↦ absurd (omega (arith, one, a, b, t'.apart r.slot, cond-false {A = ℕ} (ltb r.slot (slot_count t')) 1 0 n))
    ]

-- Octets after a payload was copied into their part from `at` on: `ys` is what the part holds then.
written : (xs ys p : List ℕ) (at : ℕ) → ys ≡ p → put_mid at (at + length p - at) xs ys ≡ overwritten xs at p
written xs ys p at e =
    let n : at + length p - at ≡ length p = omega arith in
    ap (λ v. take at xs ++ (v ++ drop (at + length p - at) (drop at xs))) e ∙ ap (λ k. take at xs ++ (p ++ drop k (drop at xs))) n
    ∙ ap (λ v. take at xs ++ (p ++ v)) (drop-drop (length p) at xs)

-- A free slot is taken for a payload that there is room for.
module _ (s : SlotStore) (t' : SlotTable) (slot m : ℕ) (p : List ℕ) (room : room_for s m (length p) ≡ None)
    (rows : used_rows t' ≡ used_rows s.table ++ new_row slot m p ∷ []) (slots : slot_count t' ≡ slot_count s.table) where
  pub payload_ends : slot * s.size + length p ≤ length s.octets.items
  payload_ends =
      let l : slot < slot_count s.table = omega (arith, slots, (fresh s.table t' (new_row slot m p) rows).1) in
      omega (arith, (has_room s m (length p) room).0, slot_below slot (slot_count s.table) s.size l, s.even)

  pub rows_longer : length (used_rows t') ≡ length (used_rows s.table) + 1
  rows_longer = ap length rows ∙ length_push (used_rows s.table) (new_row slot m p)

  pub rows_short : overlong s.size (used_rows t') ≡ 0
  rows_short =
      let f : SlotRow → ℕ = λ x. cond (ltb s.size x.length) 1 0 in
      let z : cond (ltb s.size (length p)) 1 0 ≡ 0 = cond-false {A = ℕ} (ltb s.size (length p)) 1 0 (le-ltb s.size (length p) (has_room s m (length p) room).0) in
      omega (arith, z, ap (overlong s.size) rows, sum_by_push f (used_rows s.table) (new_row slot m p), s.short)

  -- and the payload is copied into it, from the octets that were lent as `xs`
  module _ (xs ys : List ℕ) (lent : xs ≡ s.octets.items) (copied : ys ≡ p) where
    abbrev pub ws : List ℕ
    ws = put_mid (slot * s.size) (slot * s.size + length p - slot * s.size) xs ys

    back : length ws ≡ s.octets.len
    back =
        ap length (written xs ys p (slot * s.size) copied)
        ∙ omega (
          arith,
          length-append (take (slot * s.size) xs) (p ++ drop (slot * s.size + length p) xs),
          length-append p (drop (slot * s.size + length p) xs),
          length-take-le (slot * s.size) xs (omega (arith, payload_ends, ap length lent)),
          length-drop (slot * s.size + length p) xs,
          payload_ends,
          ap length lent,
          s.octets.ok.0,
        )

    pub octets_kept : length (with_items s.octets ws).items ≡ length s.octets.items
    octets_kept = ap length (with_items_is s.octets ws back) ∙ back ∙ s.octets.ok.0

    pub entries_more : map (view (with_items s.octets ws).items s.size) (used_rows t') ≡ entries s ++ (record { mailbox = m; payload = p }) ∷ []
    entries_more =
        ap (λ v. map (view v s.size) (used_rows t')) (with_items_is s.octets ws back ∙ written xs ys p (slot * s.size) copied ∙ ap (λ v. overwritten v (slot * s.size) p) lent)
        ∙ ap (map (view (overwritten s.octets.items (slot * s.size) p) s.size)) rows
        ∙ views_more s.octets.items s.size slot p (has_room s m (length p) room).0 payload_ends (used_rows s.table) m
        (fresh s.table t' (new_row slot m p) rows).0 s.short
