-- Octets cut at spaces.
use Rattle.std.proofs.Common.{◌≡◌, ℕ, ◌≤◌, ◌-◌, eqb, List, [], ◌∷◌, ◌++◌, length, get_or, take, drop, sym, refl, ap, ◌∙◌, subst, inl, inr, arith}
use Rattle.std.specs.List.{flat_map, prefix_len, AllByRecursion}
use Rattle.std.proofs.lemmas.List.{append-nil, take_at, take_rest, drop_at, drop_more}
use Rattle.std.proofs.lemmas.Bool.{cases_eq, ne_eqb, not_from_false}
use Rattle.address.specs.Words.{run}
use Rattle.address.proofs.Runs.{leading_is, run_passes, stops_at}
use Rattle.command.specs.Lines.{not_space}
use Rattle.command.specs.Parameters.{Parameters, Spaceless, spaced}

-- A word up to the first space, and the parameters behind it.
record Split (xs : List ℕ) : Type 0 where
  pub word : List ℕ
  pub params : List (List ℕ)
  pub spelt : xs ≡ word ++ flat_map spaced params
  pub spaceless : Spaceless word
  pub apart : AllByRecursion Spaceless params

split : (xs : List ℕ) → Split xs
split [] = record { word = []; params = []; spelt = refl; spaceless = tt; apart = tt }
split (x ∷ xs) =
    let s = split xs in
    elim (cases_eq x 32) [
      | inl e ↦ record {
        word = [];
        params = s.word ∷ s.params;
        spelt = ap (λ v. x ∷ v) s.spelt ∙ ap (λ y. y ∷ (s.word ++ flat_map spaced s.params)) e;
        spaceless = tt;
        apart = (s.spaceless, s.apart);
      }
      | inr n ↦ record {
        word = x ∷ s.word;
        params = s.params;
        spelt = ap (λ v. x ∷ v) s.spelt;
        spaceless = (not_from_false (eqb x 32) (ne_eqb x 32 n), s.spaceless);
        apart = s.apart;
      }
    ]

stops : (ps : List (List ℕ)) → prefix_len not_space (flat_map spaced ps) ≡ 0
stops [] = refl
stops (p ∷ ps) = stops_at not_space 32 (p ++ flat_map spaced ps) refl

run_word : (w : List ℕ) (ps : List (List ℕ)) → Spaceless w → run not_space (w ++ flat_map spaced ps) ≡ w
run_word w ps h =
    let r = flat_map spaced ps in
    ap (λ k. take k (w ++ r)) (leading_is not_space w r h (stops ps)) ∙ take_at w r (length w) refl

-- Octets are parameters in one way only.
pub params_same : (ps qs : List (List ℕ)) → AllByRecursion Spaceless ps → AllByRecursion Spaceless qs → flat_map spaced ps ≡ flat_map spaced qs → ps ≡ qs
params_same [] [] h k e = refl
params_same [] (q ∷ qs) h k e = absurd (omega (arith, ap length e))
params_same (p ∷ ps) [] h k e = absurd (omega (arith, ap length e))
params_same (p ∷ ps) (q ∷ qs) h k e =
    let f : p ++ flat_map spaced ps ≡ q ++ flat_map spaced qs = ap (drop 1) e in
    let g : p ≡ q = sym (run_word p ps h.0) ∙ ap (run not_space) f ∙ run_word q qs k.0 in
    let l : flat_map spaced ps ≡ flat_map spaced qs =
    sym (drop_at p (flat_map spaced ps) (length p) refl) ∙ ap (drop (length p)) f ∙ drop_at q (flat_map spaced qs) (length p) (ap length (sym g)) in
    ap (λ v. v ∷ ps) g ∙ ap (λ v. q ∷ v) (params_same ps qs h.1 k.1 l)

-- What stands behind a space, as the code takes it.
pub behind_space : (xs : List ℕ) → 1 ≤ length xs → get_or xs 0 0 ≡ 32 → xs ≡ 32 ∷ take (length xs - 1) (drop 1 xs)
behind_space xs l e = drop_more xs 0 0 l ∙ ap (λ x. x ∷ drop 1 xs) e ∙ ap (λ v. 32 ∷ v) (sym (take_rest xs 1))

-- Behind a space stands the first parameter, up to the next space.
pub record Parted (xs first : List ℕ) : Type 0 where
  pub params : List (List ℕ)
  pub whole : Parameters xs (first ∷ params)

module _ (xs rest : List ℕ) (e : xs ≡ 32 ∷ rest) (first : List ℕ) (f : first ≡ run not_space rest) where
  spaceless_first : Spaceless first
  spaceless_first = subst Spaceless (sym f) (run_passes not_space rest)

  pub parted : Parted xs first
  parted =
      let s = split rest in
      let w : s.word ≡ first = sym (f ∙ ap (run not_space) s.spelt ∙ run_word s.word s.params s.spaceless) in
      record {
        params = s.params;
        whole = record {
          spelt = e ∙ ap (λ v. 32 ∷ v) s.spelt ∙ ap (λ v. 32 ∷ (v ++ flat_map spaced s.params)) w;
          apart = (spaceless_first, s.apart);
        };
      }

  -- It is the only one where no space stands behind it, and else the second one stands behind that space.
  pub parted-alone : first ≡ rest → Parameters xs (first ∷ [])
  parted-alone g = record {
    spelt = e ∙ ap (λ v. 32 ∷ v) (sym (append-nil rest) ∙ ap (λ v. v ++ []) (sym g));
    apart = (spaceless_first, tt);
  }

  pub record Followed (more : List ℕ) : Type 0 where
    pub params : List (List ℕ)
    pub whole : Parameters xs (first ∷ run not_space more ∷ params)

  pub followed : (more : List ℕ) → rest ≡ first ++ 32 ∷ more → Followed more
  followed more g =
      let s = split more in
      let w : s.word ≡ run not_space more = sym (ap (run not_space) s.spelt ∙ run_word s.word s.params s.spaceless) in
      record {
        params = s.params;
        whole = record {
          spelt = e ∙ ap (λ v. 32 ∷ v) g ∙ ap (λ v. 32 ∷ (first ++ 32 ∷ v)) (s.spelt ∙ ap (λ v. v ++ flat_map spaced s.params) w);
          apart = (spaceless_first, (run_passes not_space more, s.apart));
        };
      }
