-- A text is trimmed in one way.
use Rattle.std.proofs.Common.{◌≡◌, ℕ, zero, suc, Bool, true, false, cond, eqb, List, [], ◌∷◌, ◌++◌, reverse, replicate, sym, refl, ap, ◌∙◌, inl, inr, append_assoc, add-one, arith}
use Rattle.std.proofs.lemmas.List.{append-nil, reverse-append, reverse-reverse, replicate_more}
use Rattle.std.proofs.lemmas.Bool.{eqb-true, eqb-false, ne_eqb}
use Rattle.protocol.specs.Lines.{Trimmed, unspaced, trim, LineLaws}
use Rattle.protocol.proofs.Breaks.{last}
use Rattle.protocol.proofs.Cuts.{cuts, one-cut}

pub trim-space : (xs : List ℕ) → trim (xs ++ (32 ∷ [])) ≡ trim xs
trim-space xs = ap (λ t. reverse (unspaced t)) (reverse-append xs (32 ∷ []))

pub trim_other : (xs : List ℕ) (x : ℕ) → (x ≡ 32 → ⊥) → trim (xs ++ (x ∷ [])) ≡ xs ++ (x ∷ [])
trim_other xs x h =
    ap (λ t. reverse (unspaced t)) (reverse-append xs (x ∷ []))
    ∙ ap (λ w. reverse (cond w (unspaced (reverse xs)) (x ∷ reverse xs))) (ne_eqb x 32 h)
    ∙ ap reverse (sym (reverse-append xs (x ∷ []))) ∙ reverse-reverse (xs ++ (x ∷ []))

trim-bare : (xs : List ℕ) → ((front : List ℕ) → xs ≡ front ++ (32 ∷ []) → ⊥) → trim xs ≡ xs
trim-bare xs bare =
    elim (last xs) [
      | inl e ↦ ap trim e ∙ sym e
      | inr g ↦
          let x = g.1.0 in
          ap trim g.1.1 ∙ trim_other g.0 x (λ q. bare g.0 (g.1.1 ∙ ap (λ y. g.0 ++ (y ∷ [])) q)) ∙ sym g.1.1
    ]

pushed : (n : ℕ) → replicate {A = ℕ} (suc n) 32 ≡ replicate n 32 ++ (32 ∷ [])
pushed n = ap (λ k. replicate k 32) (sym (add-one n)) ∙ sym (replicate_more n 32)

trim-spaces : (n : ℕ) (xs : List ℕ) → trim (xs ++ replicate n 32) ≡ trim xs
trim-spaces zero xs = ap trim (append-nil xs)
trim-spaces (suc n) xs =
    ap (λ t. trim (xs ++ t)) (pushed n) ∙ ap trim (sym (append_assoc xs (replicate n 32) (32 ∷ []))) ∙ trim-space (xs ++ replicate n 32) ∙ trim-spaces n xs

trimmed_is : (text kept : List ℕ) → Trimmed text kept → kept ≡ trim text
trimmed_is text kept t = sym (ap trim t.whole ∙ trim-spaces t.spaces kept ∙ trim-bare kept t.bare)

record Led (xs ys : List ℕ) : Type 0 where
  pub count : ℕ
  pub whole : xs ≡ replicate count 32 ++ ys
  pub bare : (t : List ℕ) → ys ≡ 32 ∷ t → ⊥

led : (xs : List ℕ) → Led xs (unspaced xs)
led [] = record { count = 0; whole = refl; bare = λ t e. let z : ◌≡◌ {A = ℕ} 0 1 = cc in omega arith }
led (x ∷ xs) = go (eqb x 32) refl (led xs)
  where
    go : (w : Bool) → eqb x 32 ≡ w → Led xs (unspaced xs) → Led (x ∷ xs) (cond w (unspaced xs) (x ∷ xs))
    go true e r = record { count = suc r.count; whole = ap (λ y. y ∷ xs) (eqb-true x 32 e) ∙ ap (λ t. 32 ∷ t) r.whole; bare = r.bare }
    go false e r = record { count = 0; whole = refl; bare = λ t q. eqb-false x 32 e (cc) }

mirrored : (n : ℕ) → reverse (replicate {A = ℕ} n 32) ≡ replicate n 32
mirrored zero = refl
mirrored (suc n) = reverse-append (32 ∷ []) (replicate n 32) ∙ ap (λ t. t ++ (32 ∷ [])) (mirrored n) ∙ sym (pushed n)

trims : (text : List ℕ) → Trimmed text (trim text)
trims text =
    let l = led (reverse text) in
    let u = unspaced (reverse text) in
    record {
      spaces = l.count;
      whole =
          sym (reverse-reverse text) ∙ ap reverse l.whole ∙ reverse-append (replicate l.count 32) u
          ∙ ap (λ t. reverse u ++ t) (mirrored l.count);
      bare = λ front e. l.bare (reverse front) (sym (reverse-reverse u) ∙ ap reverse e ∙ reverse-append front (32 ∷ []));
    }

pub laws : LineLaws
laws = record {
  cuts = cuts;
  one-cut = one-cut;
  trims = trims;
  one-trim = λ text a b s t. trimmed_is text a s ∙ sym (trimmed_is text b t);
}
