-- What stands at a place of a part of a list.
use Rattle.std.proofs.Common.{◌≡◌, ℕ, zero, suc, ◌+◌, ◌<◌, List, [], ◌∷◌, ◌++◌, length, take, drop, Some, None, Option, sym, refl, ap, ◌∙◌, zero-add, arith}
use Rattle.std.specs.List.{slice_get, remove}

-- None is not Some.
pub none_some : {X : Type 0} (x : X) (C : Type 0) → ◌≡◌ {A = Option X} None (Some x) → C
none_some x C h = let z : ◌≡◌ {A = ℕ} 0 1 = cc in absurd (omega arith)

pub same_some : {X : Type 0} (x y : X) → ◌≡◌ {A = Option X} (Some x) (Some y) → x ≡ y
same_some x y h = cc

pub nth-within : {X : Type 0} (xs : List X) (at : ℕ) (x : X) → slice_get xs at ≡ Some x → at < length xs
nth-within [] at x h = none_some x _ h
nth-within (y ∷ xs) zero x h = omega arith
nth-within (y ∷ xs) (suc at) x h = omega (arith, nth-within xs at x h)

pub nth-take : {X : Type 0} (n : ℕ) (xs : List X) (at : ℕ) → at < n → slice_get (take n xs) at ≡ slice_get xs at
nth-take zero xs at h = absurd (omega arith)
nth-take (suc n) [] at h = refl
nth-take (suc n) (x ∷ xs) zero h = refl
nth-take (suc n) (x ∷ xs) (suc at) h = nth-take n xs at (omega arith)

pub nth_drop : {X : Type 0} (n : ℕ) (xs : List X) (at : ℕ) → slice_get (drop n xs) at ≡ slice_get xs (n + at)
nth_drop zero xs at = ap (slice_get xs) (sym (zero-add at))
nth_drop (suc n) [] at = refl
nth_drop (suc n) (x ∷ xs) at = nth_drop n xs at ∙ ap (slice_get (x ∷ xs)) (let z : suc (n + at) ≡ suc n + at = omega arith in z)

-- A list falls apart at a place.
pub split_at : {X : Type 0} (xs : List X) (at : ℕ) (x : X) → slice_get xs at ≡ Some x → xs ≡ take at xs ++ x ∷ drop (suc at) xs
split_at [] at x h = none_some x _ h
split_at (y ∷ xs) zero x h = ap (λ v. v ∷ xs) (same_some y x h)
split_at (y ∷ xs) (suc at) x h = ap (λ v. y ∷ v) (split_at xs at x h)

pub removed_at : {X : Type 0} (xs : List X) (y : X) (ys : List X) → remove (xs ++ y ∷ ys) (length xs) ≡ xs ++ ys
removed_at [] y ys = refl
removed_at (x ∷ xs) y ys = ap (λ v. x ∷ v) (removed_at xs y ys)

pub drop_nth : {X : Type 0} (xs : List X) (at : ℕ) (x : X) → slice_get xs at ≡ Some x → drop at xs ≡ x ∷ drop (suc at) xs
drop_nth [] at x h = none_some x _ h
drop_nth (y ∷ xs) zero x h = ap (λ v. v ∷ xs) (same_some y x h)
drop_nth (y ∷ xs) (suc at) x h = drop_nth xs at x h

pub take_nth : {X : Type 0} (xs : List X) (at : ℕ) (x : X) → slice_get xs at ≡ Some x → take (suc at) xs ≡ take at xs ++ x ∷ []
take_nth [] at x h = none_some x _ h
take_nth (y ∷ xs) zero x h = ap (λ v. v ∷ []) (same_some y x h)
take_nth (y ∷ xs) (suc at) x h = ap (λ v. y ∷ v) (take_nth xs at x h)
