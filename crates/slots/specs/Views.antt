-- The entries that rows stand for, and what a payload that is written into a slot leaves of them.
use Rattle.std.specs.Prelude.{◌≡◌, ℕ, suc, ◌+◌, ◌-◌, ◌*◌, ◌<◌, ◌≤◌, cond, List, [], ◌∷◌, ◌++◌, map, length, take, drop, ◌==◌, ◌≢◌, nat_lt, refl}
use Rattle.std.proofs.Common.{sym, ap, ◌∙◌, inl, inr, add-mul, mul-le-mul_right, one-mul, arith}
use Rattle.std.specs.List.{remove}
use Rattle.std.proofs.lemmas.List.{append_assoc, drop_at, drop-drop, drop-map, drop-take, length-append, length-take-le, map-append, map_push, take-append-le, take_at, take-map, take-take}
use Rattle.std.proofs.lemmas.List.Sums.{sum_by-cons}
use Rattle.std.proofs.lemmas.Bool.{cases_Bool, cases_order, cond-true, eq-eqb, ltb-false}
use Rattle.slots.specs.Slots.{overlong, takes}
use Rattle.slots.specs.Stores.{view}
use Rattle.slots.specs.declared.row.SlotRow.{SlotRow}

-- Taking a record out of a list takes its image out of the image.
pub map_removed : {X Y : Type 0} (f : X → Y) (xs : List X) (at : ℕ) → map f (remove xs at) ≡ remove (map f xs) at
map_removed f xs at = map-append f (take at xs) (drop (suc at) xs) ∙ ap (λ v. v ++ map f (drop (suc at) xs)) (sym (take-map f at xs)) ∙ ap (λ v. take at (map f xs) ++ v) (sym (drop-map f (suc at) xs))

-- Slots do not overlap.
pub slot_below : (a b size : ℕ) → a < b → a * size + size ≤ b * size
slot_below a b size l = omega (arith, mul-le-mul_right {m = a + 1} {n = b} size (omega arith), add-mul a 1 size, one-mul size)

-- Octets after a payload was written at a place.
abbrev pub overwritten : List ℕ → ℕ → List ℕ → List ℕ
overwritten octets at payload = take at octets ++ (payload ++ drop (at + length payload) octets)

module _ (octets : List ℕ) (at : ℕ) (payload : List ℕ) (fits : at + length payload ≤ length octets) where
  front_length : length (take at octets) ≡ at
  front_length = length-take-le at octets (omega arith)

  pub read_back : take (length payload) (drop at (overwritten octets at payload)) ≡ payload
  read_back = ap (take (length payload)) (drop_at (take at octets) _ at front_length) ∙ take_at payload _ (length payload) refl

  pub read_below : (from len : ℕ) → from + len ≤ at → take len (drop from (overwritten octets at payload)) ≡ take len (drop from octets)
  read_below from len h =
      sym (drop-take from len (overwritten octets at payload))
      ∙ ap (drop from) (take-append-le (from + len) (take at octets) _ (omega (arith, front_length)) ∙ take-take (from + len) at octets h)
      ∙ drop-take from len octets

  pub read_above : (from len : ℕ) → at + length payload ≤ from → take len (drop from (overwritten octets at payload)) ≡ take len (drop from octets)
  read_above from len h =
      let n = at + length payload in
      let e : n + (from - n) ≡ from = omega arith in
      let whole : drop n (overwritten octets at payload) ≡ drop n octets =
      ap (drop n) (sym (append_assoc (take at octets) payload (drop n octets)))
      ∙ drop_at (take at octets ++ payload) (drop n octets) n (omega (arith, length-append (take at octets) payload, front_length)) in
      ap (take len) (ap (λ k. drop k (overwritten octets at payload)) (sym e) ∙ sym (drop-drop (from - n) n (overwritten octets at payload))
      ∙ ap (drop (from - n)) whole ∙ drop-drop (from - n) n octets ∙ ap (λ k. drop k octets) e)

-- The row of a payload in a slot.
abbrev pub new_row : ℕ → ℕ → List ℕ → SlotRow
new_row slot mailbox payload = record { slot = slot; length = length payload; mailbox = mailbox }

-- A payload that is written into a slot leaves the entries that lie in others.
module _ (octets : List ℕ) (size slot : ℕ) (payload : List ℕ) (within : length payload ≤ size) (fits : slot * size + length payload ≤ length octets) where
  view_apart : (r : SlotRow) → r.length ≤ size → (r.slot ≢ slot) → view (overwritten octets (slot * size) payload) size r ≡ view octets size r
  view_apart r l ne =
      ap (λ v. record { mailbox = r.mailbox; payload = v })
      (elim (cases_order r.slot slot) [
        | inl e ↦ absurd (ne e)
        | inr (inl h) ↦ read_below octets (slot * size) payload fits (r.slot * size) r.length (omega (arith, slot_below r.slot slot size h))
        | inr (inr h) ↦ read_above octets (slot * size) payload fits (r.slot * size) r.length (omega (arith, slot_below slot r.slot size h))
      ])

  pub views_kept : (rs : List SlotRow) → takes slot rs ≡ 0 → overlong size rs ≡ 0 → map (view (overwritten octets (slot * size) payload) size) rs ≡ map (view octets size) rs
  views_kept [] t o = refl
  views_kept (r ∷ rs) t o =
      let a = sum_by-cons (λ (x : SlotRow). cond (x.slot == slot) 1 0) r rs in
      let b = sum_by-cons (λ (x : SlotRow). cond (nat_lt size x.length) 1 0) r rs in
      let ne : r.slot ≡ slot → ⊥ = λ e. omega (arith, a, t, cond-true {A = ℕ} (r.slot == slot) 1 0 (eq-eqb r.slot slot e)) in
      let l : r.length ≤ size =
      elim (cases_Bool (nat_lt size r.length)) [
        | inl y ↦ absurd (omega (arith, b, o, cond-true {A = ℕ} (nat_lt size r.length) 1 0 y))
        | inr n ↦ ltb-false size r.length n
      ] in
      ap (λ v. v ∷ map (view (overwritten octets (slot * size) payload) size) rs) (view_apart r l ne)
      ∙ ap (λ v. view octets size r ∷ v) (views_kept rs (omega (arith, a, t)) (omega (arith, b, o)))

  -- and the row that is put behind theirs has the payload
  pub views_more : (rs : List SlotRow) (mailbox : ℕ) → takes slot rs ≡ 0 → overlong size rs ≡ 0 →
      map (view (overwritten octets (slot * size) payload) size) (rs ++ new_row slot mailbox payload ∷ [])
      ≡ map (view octets size) rs ++ (record { mailbox = mailbox; payload = payload }) ∷ []
  views_more rs mailbox t o =
      map_push (view (overwritten octets (slot * size) payload) size) rs (new_row slot mailbox payload)
      ∙ ap (λ v. v ++ (record { mailbox = mailbox; payload = take (length payload) (drop (slot * size) (overwritten octets (slot * size) payload)) }) ∷ []) (views_kept rs t o)
      ∙ ap (λ v. map (view octets size) rs ++ (record { mailbox = mailbox; payload = v }) ∷ []) (read_back octets (slot * size) payload fits)
