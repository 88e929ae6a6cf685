-- Where a CR LF stands, and where none does.
use Rattle.std.proofs.Common.{◌≡◌, ℕ, ◌+◌, Bool, true, false, eqb, ◌⊎◌, List, [], ◌∷◌, ◌++◌, length, sym, refl, ap, ◌∙◌, subst, inl, inr, append_assoc, arith}
use Rattle.std.proofs.lemmas.List.{length_push, same_from_push}
use Rattle.std.proofs.lemmas.Bool.{eqb-true, eqb-false}
use Rattle.protocol.specs.Buffers.{CrLast}
use Rattle.protocol.specs.Lines.{Unbroken, ended}

pub pushed_some : (xs : List ℕ) (x : ℕ) → xs ++ (x ∷ []) ≡ [] → ⊥
pushed_some xs x e = let n : length xs + 1 ≡ 0 = sym (length_push xs x) ∙ ap length e in omega arith

-- A list is empty or has a last element.
abbrev pub Last : List ℕ → Type 0
Last xs = (xs ≡ []) ⊎ ((front : List ℕ) × ((x : ℕ) × (xs ≡ front ++ (x ∷ []))))

pub last : (xs : List ℕ) → Last xs
last [] = inl refl
last (x ∷ xs) =
    elim (last xs) [
      | inl e ↦ inr ([], (x, ap (λ t. x ∷ t) e))
      | inr g ↦ inr (x ∷ g.0, (g.1.0, ap (λ t. x ∷ t) g.1.1))
    ]

pub cr_pushed : (w : Bool) (xs : List ℕ) (x : ℕ) → eqb x 13 ≡ w → CrLast w (xs ++ (x ∷ []))
cr_pushed true xs x e = (xs, ap (λ y. xs ++ (y ∷ [])) (eqb-true x 13 e))
cr_pushed false xs x e = λ t q. eqb-false x 13 e (same_from_push xs t x 13 q).1

pub cr_last : (xs : List ℕ) → (w : Bool) × CrLast w xs
cr_last xs =
    elim (last xs) [
      | inl e ↦ (false, λ t q. pushed_some t 13 (sym q ∙ e))
      | inr g ↦
          let w = eqb g.1.0 13 in
          let P : List ℕ → Type 0 = λ t. CrLast w t in
          (w, subst P (sym g.1.1) (cr_pushed w g.0 g.1.0 refl))
    ]

pub unbroken_nil : Unbroken []
unbroken_nil [] b e = let z : ◌≡◌ {A = ℕ} 0 1 = cc in omega arith
unbroken_nil (x ∷ a) b e = let z : ◌≡◌ {A = ℕ} 0 1 = cc in omega arith

unbroken_tail : (x : ℕ) (xs : List ℕ) → Unbroken (x ∷ xs) → Unbroken xs
unbroken_tail x xs h a b e = h (x ∷ a) b (ap (λ t. x ∷ t) e)

pub unbroken_front : (xs ys : List ℕ) → Unbroken (xs ++ ys) → Unbroken xs
unbroken_front xs ys h a b e = h a (b ++ ys) (ap (λ t. t ++ ys) e ∙ append_assoc a (13 ∷ 10 ∷ b) ys)

-- An octet more brings a CR LF only as the LF after a CR.
pub unbroken_push : (xs : List ℕ) (x : ℕ) → Unbroken xs → ((t : List ℕ) → xs ≡ t ++ (13 ∷ []) → x ≡ 10 → ⊥) → Unbroken (xs ++ (x ∷ []))
unbroken_push xs x h n a b e =
    elim (last b) [
      | inl q ↦
          let k = same_from_push xs (a ++ (13 ∷ [])) x 10 (e ∙ ap (λ t. a ++ (13 ∷ 10 ∷ t)) q ∙ sym (append_assoc a (13 ∷ []) (10 ∷ []))) in
          n a k.0 k.1
      | inr g ↦
          let c = g.0 in
          let y = g.1.0 in
          let k = same_from_push xs (a ++ (13 ∷ 10 ∷ c)) x y (e ∙ ap (λ t. a ++ (13 ∷ 10 ∷ t)) g.1.1 ∙ sym (append_assoc a (13 ∷ 10 ∷ c) (y ∷ []))) in
          h a c k.0
    ]

-- The first CR LF ends the first line.
pub first_break : (l m u v : List ℕ) → Unbroken l → Unbroken m → l ++ (13 ∷ 10 ∷ u) ≡ m ++ (13 ∷ 10 ∷ v) → (l ≡ m) × (u ≡ v)
first_break [] [] u v a b e = (refl, cc)
first_break [] (y ∷ []) u v a b e = let z : ◌≡◌ {A = ℕ} 10 13 = cc in absurd (omega arith)
first_break [] (y ∷ z ∷ m) u v a b e = let p : y ≡ 13 = cc in let q : z ≡ 10 = cc in absurd (b [] m (cc))
first_break (x ∷ []) [] u v a b e = let z : ◌≡◌ {A = ℕ} 10 13 = cc in absurd (omega arith)
first_break (x ∷ z ∷ l) [] u v a b e = let p : x ≡ 13 = cc in let q : z ≡ 10 = cc in absurd (a [] l (cc))
first_break (x ∷ l) (y ∷ m) u v a b e =
    let p : x ≡ y = cc in
    let t : l ++ (13 ∷ 10 ∷ u) ≡ m ++ (13 ∷ 10 ∷ v) = cc in
    let r = first_break l m u v (unbroken_tail x l a) (unbroken_tail y m b) t in
    let q : l ≡ m = r.0 in
    (cc, r.1)

-- A line, and what comes after it.
pub line_then : (l j rest : List ℕ) → (ended l ++ j) ++ rest ≡ l ++ (13 ∷ 10 ∷ (j ++ rest))
line_then l j rest = append_assoc (ended l) j rest ∙ append_assoc l (13 ∷ 10 ∷ []) (j ++ rest)
