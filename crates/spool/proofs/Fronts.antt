-- Lists at the front of a memory: what their operations answer and leave, over the records.
use Rattle.std.proofs.Common.{◌≡◌, ℕ, zero, suc, ◌+◌, ◌-◌, ◌<◌, ◌≤◌, min, leb, List, [], ◌∷◌, ◌++◌, length, get_or, take, drop, set, Some, None, Ok, Err, Option, Result, sym, refl, ap, ◌∙◌, inl, inr, arith}
use Rattle.std.specs.List.{slice_get, copy_within}
use Rattle.std.proofs.lemmas.List.Edits.{take-paste}
use Rattle.std.proofs.lemmas.List.{drop-take, length-take, length-take-le, length-drop, take_all, take-take}
use Rattle.std.proofs.lemmas.Bool.{cases_lt, cond-true, cond-false, le-leb, lt-leb}
use Rattle.spool.specs.Lists.{appends, appended, placed, removes, remaining, present}
use Rattle.refusals.specs.Refusals.{Notice, plain}

-- The place where a list ends in its memory.
pub front_length : {X : Type 0} (xs : List X) (c n : ℕ) → n ≡ min c (length xs) → length (take c xs) ≡ n
front_length xs c n e = length-take c xs ∙ sym e

pub front_is : {X : Type 0} (xs : List X) (c n : ℕ) → n ≡ min c (length xs) → take n xs ≡ take c xs
front_is xs c n e =
    elim (cases_lt c (length xs)) [
      | inl l ↦ ap (λ k. take k xs) (let z : n ≡ c = omega arith in z)
      | inr l ↦ take_all n xs (omega arith) ∙ sym (take_all c xs l)
    ]

module _ {X : Type 0} (xs ys : List X) (c n : ℕ) (e : n ≡ min c (length xs)) where
  pub extend_fits : length ys ≤ length xs - n → Ok tt ≡ appends (length xs) (take c xs) ys
  extend_fits h = sym (cond-true (leb (length (take c xs) + length ys) (length xs)) _ _ (le-leb _ _ (omega (arith, front_length xs c n e))))

  pub extend_after : (zs : List X) → length ys ≤ length xs - n → zs ≡ take n xs ++ ys → zs ≡ appended (length xs) (take c xs) ys
  extend_after zs h k =
      k ∙ ap (λ v. v ++ ys) (front_is xs c n e)
      ∙ sym (cond-true (leb (length (take c xs) + length ys) (length xs)) _ _ (le-leb _ _ (omega (arith, front_length xs c n e))))

  pub extend_full : length xs - n < length ys → ◌≡◌ {A = Result (Unit {0}) Notice} (Err (plain 13)) (appends (length xs) (take c xs) ys)
  extend_full h = sym (cond-false (leb (length (take c xs) + length ys) (length xs)) _ _ (lt-leb _ _ (omega (arith, front_length xs c n e))))

  pub extend_same : length xs - n < length ys → take c xs ≡ appended (length xs) (take c xs) ys
  extend_same h = sym (cond-false (leb (length (take c xs) + length ys) (length xs)) _ _ (lt-leb _ _ (omega (arith, front_length xs c n e))))

module _ {X : Type 0} (xs : List X) (x : X) (c n : ℕ) (e : n ≡ min c (length xs)) where
  pub place_free : n < length xs → set xs n x ≡ placed xs (take c xs) x
  place_free h =
      ap (λ k. set xs k x) (sym (front_length xs c n e))
      ∙ sym (cond-true (leb (length (take c xs) + 1) (length xs)) _ _ (le-leb _ _ (omega (arith, front_length xs c n e))))

  pub place_none : length xs ≤ n → xs ≡ placed xs (take c xs) x
  place_none h = sym (cond-false (leb (length (take c xs) + 1) (length xs)) _ _ (lt-leb _ _ (omega (arith, front_length xs c n e))))

module _ {X : Type 0} (xs : List X) (c n at by : ℕ) (e : n ≡ min c (length xs)) where
  pub remove-fits : at + by ≤ n → Ok tt ≡ removes (take c xs) at by
  remove-fits h = sym (cond-true (leb (at + by) (length (take c xs))) _ _ (le-leb _ _ (omega (arith, front_length xs c n e))))

  pub remove_after : (zs : List X) → at + by ≤ n → zs ≡ take at xs ++ drop (at + by) (take n xs) → zs ≡ remaining (take c xs) at by
  remove_after zs h k =
      k ∙ ap (λ v. v ++ drop (at + by) (take n xs)) (sym (take-take at n xs (omega arith)))
      ∙ ap (λ v. take at v ++ drop (at + by) v) (front_is xs c n e)
      ∙ sym (cond-true (leb (at + by) (length (take c xs))) _ _ (le-leb _ _ (omega (arith, front_length xs c n e))))

  pub remove_absent : n < at + by → ◌≡◌ {A = Result (Unit {0}) Notice} (Err (plain 13)) (removes (take c xs) at by)
  remove_absent h = sym (cond-false (leb (at + by) (length (take c xs))) _ _ (lt-leb _ _ (omega (arith, front_length xs c n e))))

  pub remove_same : n < at + by → take c xs ≡ remaining (take c xs) at by
  remove_same h = sym (cond-false (leb (at + by) (length (take c xs))) _ _ (lt-leb _ _ (omega (arith, front_length xs c n e))))

-- What a gap leaves once it is closed.
pub gap_closed : {X : Type 0} (xs zs : List X) (at by end : ℕ) → at + by ≤ end → end ≤ length xs → zs ≡ copy_within xs (at + by) end at →
    take (end - by) zs ≡ take at xs ++ drop (at + by) (take end xs)
gap_closed xs zs at by end h w e =
    let n : ℕ = end - (at + by) in
    let a : end - by ≡ at + n = omega arith in
    let b : at + by + n ≡ end = omega arith in
    ap (λ k. take k zs) a ∙ ap (take (at + n)) e
    ∙ take-paste xs at (drop (at + by) xs) n (omega arith) (omega (arith, length-drop (at + by) xs))
    ∙ ap (λ v. take at xs ++ v) (sym (drop-take (at + by) n xs) ∙ ap (λ k. drop (at + by) (take k xs)) b)

-- The record at a place of a list.
pub nth_front : {X : Type 0} (xs : List X) (c at : ℕ) (x : X) → at < c → at < length xs → x ≡ get_or xs at x → slice_get (take c xs) at ≡ Some x
nth_front xs zero at x a l e = absurd (omega arith)
nth_front [] (suc c) at x a l e = absurd (omega arith)
nth_front (y ∷ xs) (suc c) zero x a l e = ap (λ v. Some v) (sym e)
nth_front (y ∷ xs) (suc c) (suc at) x a l e = nth_front xs c at x (omega arith) (omega arith) e

pub nth_absent : {X : Type 0} (xs : List X) (at : ℕ) → length xs ≤ at → slice_get xs at ≡ None
nth_absent [] at h = refl
nth_absent (x ∷ xs) zero h = absurd (omega arith)
nth_absent (x ∷ xs) (suc at) h = nth_absent xs at (omega arith)

pub nth_none : {X : Type 0} (xs : List X) (at : ℕ) → slice_get xs at ≡ None → length xs ≤ at
nth_none [] at h = omega arith
nth_none (x ∷ xs) zero h = let z : ◌≡◌ {A = ℕ} 0 1 = cc in absurd (omega arith)
nth_none (x ∷ xs) (suc at) h = omega (arith, nth_none xs at h)

-- What an answer says of what was asked for.
pub present_some : {X : Type 0} (o : Option X) (x : X) → Ok x ≡ present o → o ≡ Some x
present_some None x h = let z : ◌≡◌ {A = ℕ} 0 1 = cc in absurd (omega arith)
present_some (Some y) x h = ap (λ v. Some v) (let e : y ≡ x = cc in e)

pub absent_says : {X : Type 0} (o : Option X) (n : Notice) → Err n ≡ present o → (o ≡ None) × (n ≡ plain 13)
absent_says None n h = (refl, cc)
absent_says (Some y) n h = let z : ◌≡◌ {A = ℕ} 0 1 = cc in absurd (omega arith)

pub present_none : {X : Type 0} (o : Option X) (n : Notice) → Err n ≡ present o → o ≡ None
present_none None n h = refl
present_none (Some y) n h = let z : ◌≡◌ {A = ℕ} 0 1 = cc in absurd (omega arith)

-- How many records a list has, where its memory is long enough.
pub count_is : {X : Type 0} (xs ys : List X) (c n : ℕ) → ys ≡ xs → c ≤ length xs → n ≡ length (take c ys) → n ≡ c
count_is xs ys c n e l k = k ∙ ap (λ v. length (take c v)) e ∙ length-take-le c xs l
