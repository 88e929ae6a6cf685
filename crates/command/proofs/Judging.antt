-- Right and wrong parameters.
use Rattle.std.proofs.Common.{◌≡◌, ℕ, ◌≤◌, List, [], ◌∷◌, ◌++◌, length, get_or, drop, Some, None, codes, sym, refl, ap, ◌∙◌, subst, inl, inr, arith}
use Rattle.std.specs.List.{flat_map}
use Rattle.std.proofs.lemmas.List.{length-append, nil_from_length}
use Rattle.command.specs.Faults.{Verdict}
use Rattle.command.specs.Lines.{Begins}
use Rattle.command.specs.Numerals.{kept}
use Rattle.command.specs.Parameters.{AllRight, Behind, FirstWrong, Knows, Parameters, Right, Sized, Unparted, Wrong, IsSize, size_only, spaced}
use Rattle.command.proofs.Spacing.{params_same}

-- No list is empty that has something in it.
nowhere : {X : Type 0} (before : List X) (p : X) (after : List X) → [] ≡ before ++ p ∷ after → ⊥
nowhere before p after e = omega (arith, ap length e, length-append before (p ∷ after))

-- An own parameter is not empty.
pub record Proper (k : Knows) : Type 0 where
  pub some : (p : List ℕ) → k.Own p → p ≡ [] → ⊥

pub proper_size : Proper size_only
proper_size = record { some = λ p h e. omega (arith, ap length (subst (Begins (codes "SIZE=")) e h)) }

module _ (k : Knows) where
  pub right_none : AllRight k []
  right_none = record { each = λ before p after e. absurd (nowhere before p after e) }

  one : (p : List ℕ) → Right k [] p → (before : List (List ℕ)) (q : List ℕ) (after : List (List ℕ)) → p ∷ [] ≡ before ++ q ∷ after → Right k before q
  one p r [] q after e = subst (Right k []) (ap (λ v. get_or v 0 []) e) r
  one p r (b ∷ before) q after e = absurd (nowhere before q after (ap (drop 1) e))

  pub right_one : (p : List ℕ) → Right k [] p → AllRight k (p ∷ [])
  right_one p r = record { each = one p r }

  module _ (proper : Proper k) where
    no_wrong : (ps : List (List ℕ)) (v : Verdict) → AllRight k ps → FirstWrong k ps v → ⊥
    no_wrong ps v h w =
        let r = h.each w.before w.wrong w.after w.spelt in
        elim w.judged [
          | inl b ↦ elim b.1 [ inl e ↦ proper.some w.wrong r.own e | inr o ↦ o.1 r ]
          | inr u ↦ u.2 r.own
        ]

    unparted : (xs : List ℕ) (ps : List (List ℕ)) → xs ≡ flat_map spaced ps → Unparted xs → ⊥
    unparted xs [] e u = omega (arith, ap length (sym e ∙ u.spelt))
    unparted xs (p ∷ ps) e u = u.no_space (ap (λ v. get_or v 0 0) (sym u.spelt ∙ e))

    -- Right parameters are no wrong ones.
    pub no_fault : (xs : List ℕ) (ps : List (List ℕ)) (v : Verdict) → Parameters xs ps → AllRight k ps → Behind k xs v → ⊥
    no_fault xs ps v h r b =
        elim b [
          | inl u ↦ unparted xs ps h.spelt u.1
          | inr w ↦ (let e : ps ≡ w.params = params_same ps w.params h.apart w.spelt.apart (sym h.spelt ∙ w.spelt.spelt) in
              no_wrong w.params v (subst (AllRight k) e r) w.wrong)
        ]

  -- A wrong parameter is the first one, or stands behind a right one.
  module _ (xs first : List ℕ) (params : List (List ℕ)) (h : Parameters xs (first ∷ params)) where
    pub first-wrong : (v : Verdict) → Wrong k [] first v → Behind k xs v
    first-wrong v w = inr (record {
      params = first ∷ params;
      spelt = h;
      wrong = record { before = []; wrong = first; after = params; spelt = refl; right = right_none; judged = w };
    })

    pub second_wrong : (v : Verdict) (q : List ℕ) (qs : List (List ℕ)) → params ≡ q ∷ qs → Right k [] first → Wrong k (first ∷ []) q v → Behind k xs v
    second_wrong v q qs e r w = inr (record {
      params = first ∷ params;
      spelt = h;
      wrong = record {
        before = first ∷ [];
        wrong = q;
        after = qs;
        spelt = ap (λ u. first ∷ u) e;
        right = right_one first r;
        judged = w;
      };
    })

-- MAIL: the size.
size-right : (p : List ℕ) (n : ℕ) → IsSize p n → Right size_only [] p
size-right p n h = record { own = h.0; formed = (n, h); once = tt }

module _ (xs first : List ℕ) (n : ℕ) (is : IsSize first n) where
  pub size_alone : (size : ℕ) → Parameters xs (first ∷ []) → size ≡ kept n → Sized xs (Some size)
  size_alone size h e = record {
    params = first ∷ [];
    spelt = h;
    right = right_one size_only first (size-right first n is);
    size = record { before = []; param = first; after = []; spelt = refl; number = n; is_size = is; keeps = e };
  }

  pub size_then : (v : Verdict) (q : List ℕ) (more : List (List ℕ)) → Parameters xs (first ∷ q ∷ more) →
      Wrong size_only (first ∷ []) q v → Behind size_only xs v
  size_then v q more h w = second_wrong size_only xs first (q ∷ more) h v q more refl (size-right first n is) w

pub size_none : (xs : List ℕ) → length xs ≡ 0 → Sized xs None
size_none xs e = record {
  params = [];
  spelt = record { spelt = nil_from_length xs e; apart = tt };
  right = right_none size_only;
  size = tt;
}

-- Right parameters of MAIL declare one size.
pub one_at_most : (ps : List (List ℕ)) → AllRight size_only ps → length ps ≤ 1
one_at_most [] h = omega arith
one_at_most (p ∷ []) h = omega arith
one_at_most (p ∷ q ∷ ps) h =
    let a = h.each [] p (q ∷ ps) refl in
    let b = h.each (p ∷ []) q ps refl in
    absurd (b.once.0 a.own)
