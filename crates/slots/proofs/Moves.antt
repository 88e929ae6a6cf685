-- Slots move between the rows of entries and the free ones: what that leaves of either list, and how often each slot stands.
use Rattle.std.proofs.Common.{◌≡◌, ℕ, ◌+◌, ◌-◌, ◌<◌, min, Bool, true, false, cond, eqb, ltb, leb, List, [], ◌∷◌, ◌++◌, length, get_or, take, drop, sym, ap, ◌∙◌, inl, inr, add-one, arith}
use Rattle.std.specs.Vec.{with_items}
use Rattle.std.specs.List.{remove}
use Rattle.std.proofs.lemmas.List.Edits.{length-remove}
use Rattle.std.proofs.lemmas.List.{get_or-take, length_push, length-take, with_items_is, take_more}
use Rattle.std.proofs.lemmas.List.Sums.{sum_by-remove, sum_by_push}
use Rattle.std.proofs.lemmas.Bool.{cases_order, cond-true, cond-false, eq-eqb, ne_eqb, lt-ltb, le-ltb, le-leb}
use Rattle.spool.specs.Lists.{records, appended, remaining}
use Rattle.spool.proofs.Fronts.{front_is}
use Rattle.spool.specs.declared.list.OrderedList.{OrderedList}
use Rattle.slots.specs.Slots.{once, spares, takes}
use Rattle.slots.specs.Tables.{slot_count, used_rows}
use Rattle.slots.specs.declared.row.SlotRow.{SlotRow}
use Rattle.slots.specs.declared.table.SlotTable.{SlotTable}

-- What a move keeps: how many slots stand in all, and how often each.
pub record Moved (us us' : List SlotRow) (fs fs' : List ℕ) : Type 0 where
  pub many : length us' + length fs' ≡ length us + length fs
  pub each : (slot : ℕ) → takes slot us' + spares slot fs' ≡ takes slot us + spares slot fs

pub moved_in : (us us' : List SlotRow) (fs fs' : List ℕ) (r : SlotRow) → us' ≡ us ++ r ∷ [] → fs ≡ fs' ++ r.slot ∷ [] → Moved us us' fs fs'
moved_in us us' fs fs' r u f =
    record {
      many = omega (arith, ap length u, length_push us r, ap length f, length_push fs' r.slot);
      each = λ slot.
          omega (arith, ap (takes slot) u, sum_by_push (λ (x : SlotRow). cond (eqb x.slot slot) 1 0) us r, ap (spares slot) f, sum_by_push (λ n. cond (eqb n slot) 1 0) fs' r.slot);
    }

pub moved_out : (us us' : List SlotRow) (fs fs' : List ℕ) (at : ℕ) (r : SlotRow) → at < length us → r ≡ get_or us at r →
    us' ≡ remove us at → fs' ≡ fs ++ r.slot ∷ [] → Moved us us' fs fs'
moved_out us us' fs fs' at r l e u f =
    record {
      many = omega (arith, ap length u, length-remove us at l, ap length f, length_push fs r.slot);
      each = λ slot.
          omega (arith, ap (takes slot) u, sum_by-remove (λ (x : SlotRow). cond (eqb x.slot slot) 1 0) us at r l, ap {B = ℕ} (λ (x : SlotRow). cond (eqb x.slot slot) 1 0) e, ap (spares slot) f, sum_by_push (λ n. cond (eqb n slot) 1 0) fs r.slot);
    }

-- One slot more: each of those so far stands once.
pub once_more : (slot n : ℕ) → once slot n + cond (eqb n slot) 1 0 ≡ once slot (n + 1)
once_more slot n =
    let yes : (b : Bool) → b ≡ true → cond b 1 0 ≡ 1 = λ b h. cond-true {A = ℕ} b 1 0 h in
    let no' : (b : Bool) → b ≡ false → cond b 1 0 ≡ 0 = λ b h. cond-false {A = ℕ} b 1 0 h in
    elim (cases_order n slot) [
      | inl e ↦ omega (arith, yes (eqb n slot) (eq-eqb n slot e), no' (ltb slot n) (le-ltb slot n (omega arith)), yes (ltb slot (n + 1)) (lt-ltb slot (n + 1) (omega arith)))
      | inr (inl h) ↦ omega (arith, no' (eqb n slot) (ne_eqb n slot (λ e. omega arith)), no' (ltb slot n) (le-ltb slot n (omega arith)), no' (ltb slot (n + 1)) (le-ltb slot (n + 1) (omega arith)))
      | inr (inr h) ↦ omega (arith, no' (eqb n slot) (ne_eqb n slot (λ e. omega arith)), yes (ltb slot n) (lt-ltb slot n h), yes (ltb slot (n + 1)) (lt-ltb slot (n + 1) (omega arith)))
    ]

-- A list in a memory that has space for one more record.
pub append_in : {X : Type 0} (us xs : List X) (n : ℕ) (x : X) → length us < n → xs ≡ appended n us (x ∷ []) → xs ≡ us ++ x ∷ []
append_in us xs n x l e = e ∙ cond-true (leb (length us + 1) n) _ _ (le-leb (length us + 1) n (omega arith))

pub remove_in : {X : Type 0} (us xs : List X) (at : ℕ) → at < length us → xs ≡ remaining us at 1 → xs ≡ remove us at
remove_in us xs at l e =
    e ∙ cond-true (leb (at + 1) (length us)) _ _ (le-leb (at + 1) (length us) (omega arith)) ∙ ap (λ k. take at us ++ drop k us) (add-one at)

-- A list that gives up its last record.
pub last_out : {X : Type 0} (xs : List X) (l l' : OrderedList) (n : ℕ) (d : X) → n ≡ length (records l xs) → 0 < n → l'.count ≡ min l.count (n - 1) →
    records l xs ≡ records l' xs ++ get_or xs (n - 1) d ∷ []
last_out xs l l' n d e p c =
    let k : n ≡ min l.count (length xs) = e ∙ length-take l.count xs in
    let b : n - 1 + 1 ≡ n = omega arith in
    let q : l'.count ≡ n - 1 = omega arith in
    sym (front_is xs l.count n k) ∙ ap (λ v. take v xs) (sym b) ∙ take_more xs (n - 1) d (omega arith) ∙ ap (λ v. take v xs ++ get_or xs (n - 1) d ∷ []) (sym q)

-- The rows of a table whose memory was lent, to `ys`, and came back as `rs`.
module _ (t : SlotTable) (ys rs : List SlotRow) (used' : OrderedList) (lent : ys ≡ t.rows.items) (back : length rs ≡ t.rows.len) where
  pub slots_kept : length (with_items t.rows rs).items ≡ slot_count t
  slots_kept = ap length (with_items_is t.rows rs back) ∙ back ∙ t.rows.ok.0

  pub rows_in : (r : SlotRow) → length (used_rows t) < slot_count t → records used' rs ≡ appended (length ys) (records t.used ys) (r ∷ []) →
      records used' (with_items t.rows rs).items ≡ used_rows t ++ r ∷ []
  rows_in r l e =
      ap (records used') (with_items_is t.rows rs back)
      ∙ append_in (used_rows t) (records used' rs) (slot_count t) r l (e ∙ ap (λ v. appended (length v) (records t.used v) (r ∷ [])) lent)

  pub rows_out : (at : ℕ) → at < length (used_rows t) → records used' rs ≡ remaining (records t.used ys) at 1 →
      records used' (with_items t.rows rs).items ≡ remove (used_rows t) at
  rows_out at l e =
      ap (records used') (with_items_is t.rows rs back)
      ∙ remove_in (used_rows t) (records used' rs) at l (e ∙ ap (λ v. remaining (records t.used v) at 1) lent)

-- After a move the slots of a table still stand in one place each.
module _ (t : SlotTable) (us : List SlotRow) (fs : List ℕ) (n : ℕ) (m : Moved (used_rows t) us (records t.free t.numbers) fs) (e : n ≡ slot_count t) where
  pub whole_kept : length us + length fs ≡ n
  whole_kept = m.many ∙ t.whole ∙ sym e

  pub apart_kept : (slot : ℕ) → takes slot us + spares slot fs ≡ once slot n
  apart_kept slot = m.each slot ∙ t.apart slot ∙ sym (ap (once slot) e)

-- A row that was read at a place of the memory, as the row of the entry there.
pub row_at : (t : SlotTable) (at : ℕ) (r : SlotRow) → at < length (used_rows t) → r ≡ get_or t.rows.items at r → r ≡ get_or (used_rows t) at r
row_at t at r l e = e ∙ sym (get_or-take t.used.count t.rows.items at r (omega (arith, length-take t.used.count t.rows.items)))
