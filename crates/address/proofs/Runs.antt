-- The longest run at the front of a list, and runs of words with dots between them.
use Rattle.std.proofs.Common.{◌≡◌, ℕ, ◌+◌, ◌-◌, ◌<◌, ◌≤◌, Bool, true, false, cond, eqb, List, [], ◌∷◌, ◌++◌, length, take, drop, get_or, sym, refl, ap, ◌∙◌, subst, inl, inr, add-zero, zero-add, one-add, arith}
use lib.Seq.{take-append-add}
use Rattle.std.specs.List.{onto_first, prefix_len, AllByRecursion}
use Rattle.std.proofs.ByRecursion.{All-weaker}
use Rattle.std.proofs.lemmas.List.{length-append, length-drop, append-nil, take-append-drop, drop_more}
use Rattle.std.proofs.lemmas.Bool.{true≢false, cond-true, cond-false, ne_eqb, or_left, or_right, or_from, cases_eq, cases_lt, cases_Bool}
use Rattle.address.specs.Classes.{atext, let_dig}
use Rattle.address.specs.Words.{AllIn, or_dot, run, pieces, word_octet}
use Rattle.address.specs.declared.words.Word.{Word}
use Rattle.address.specs.declared.words.Word.TheVariants.{Atom, Label}

-- An octet that passes differs from one that does not.
pub passes_apart : (p : ℕ → Bool) (x y : ℕ) → p x ≡ true → p y ≡ false → x ≡ y → ⊥
passes_apart p x y h k e = true≢false (sym h ∙ ap p e ∙ k)

pub run_passes : (p : ℕ → Bool) (xs : List ℕ) → AllIn p (run p xs)
run_passes p [] = tt
run_passes p (x ∷ xs) = go (run_passes p xs) (p x) refl
  where
    go : AllIn p (run p xs) → (b : Bool) → p x ≡ b → AllIn p (take (cond b (1 + prefix_len p xs) 0) (x ∷ xs))
    go h true e = subst (λ (k : ℕ). AllIn p (take k (x ∷ xs))) (sym (one-add (prefix_len p xs))) (e, h)
    go h false e = tt

-- What follows the longest run does not pass.
run_stops : (p : ℕ → Bool) (xs : List ℕ) → prefix_len p (drop (prefix_len p xs) xs) ≡ 0
run_stops p [] = refl
run_stops p (x ∷ xs) = go (run_stops p xs) (p x) refl
  where
    go : prefix_len p (drop (prefix_len p xs) xs) ≡ 0 → (b : Bool) → p x ≡ b → prefix_len p (drop (cond b (1 + prefix_len p xs) 0) (x ∷ xs)) ≡ 0
    go h true e = subst (λ (k : ℕ). prefix_len p (drop k (x ∷ xs)) ≡ 0) (sym (one-add (prefix_len p xs))) h
    go h false e = cond-false (p x) (1 + prefix_len p xs) 0 e

pub stops_at : (p : ℕ → Bool) (x : ℕ) (xs : List ℕ) → p x ≡ false → prefix_len p (x ∷ xs) ≡ 0
stops_at p x xs h = cond-false (p x) (1 + prefix_len p xs) 0 h

stopped : (p : ℕ → Bool) (x : ℕ) (xs : List ℕ) → prefix_len p (x ∷ xs) ≡ 0 → p x ≡ false
stopped p x xs h =
    elim (cases_Bool (p x)) [
      | inl t ↦ (let z : 1 + prefix_len p xs ≡ 0 = sym (cond-true (p x) (1 + prefix_len p xs) 0 t) ∙ h in absurd (omega arith))
      | inr t ↦ t
    ]

leading_append : (p : ℕ → Bool) (w r : List ℕ) → AllIn p w → prefix_len p (w ++ r) ≡ length w + prefix_len p r
leading_append p [] r h = sym (zero-add (prefix_len p r))
leading_append p (x ∷ w) r h =
    cond-true (p x) (1 + prefix_len p (w ++ r)) 0 h.0 ∙ omega (arith, leading_append p w r h.1)

-- What passes as far as it goes, and no further, is the longest run.
pub leading_is : (p : ℕ → Bool) (w r : List ℕ) → AllIn p w → prefix_len p r ≡ 0 → prefix_len p (w ++ r) ≡ length w
leading_is p w r h e = omega (arith, leading_append p w r h, e)

pub pieces_word : (p : ℕ → Bool) → p 46 ≡ false → (w : List ℕ) → AllIn p w → pieces w ≡ w ∷ []
pieces_word p d [] h = refl
pieces_word p d (x ∷ w) h =
    cond-false (eqb x 46) _ _ (ne_eqb x 46 (passes_apart p x 46 h.0 d)) ∙ ap (onto_first x) (pieces_word p d w h.1)

pieces-dot : (p : ℕ → Bool) → p 46 ≡ false → (w r : List ℕ) → AllIn p w → pieces (w ++ 46 ∷ r) ≡ w ∷ pieces r
pieces-dot p d [] r h = refl
pieces-dot p d (x ∷ w) r h =
    cond-false (eqb x 46) _ _ (ne_eqb x 46 (passes_apart p x 46 h.0 d)) ∙ ap (onto_first x) (pieces-dot p d w r h.1)

with_dots : (p : ℕ → Bool) (w : List ℕ) → AllIn p w → AllIn (or_dot p) w
with_dots p w h = All-weaker (λ x. p x ≡ true) (λ x. or_dot p x ≡ true) (λ x k. or_left (p x) (eqb x 46) k) w h

-- A word that a dot follows, and one that nothing follows.
next_word : (p : ℕ → Bool) → p 46 ≡ false → (w r : List ℕ) → AllIn p w →
    (prefix_len (or_dot p) (w ++ 46 ∷ r) ≡ length w + (1 + prefix_len (or_dot p) r))
    × (pieces (run (or_dot p) (w ++ 46 ∷ r)) ≡ w ∷ pieces (run (or_dot p) r))
next_word p d w r h =
    let e : prefix_len (or_dot p) (w ++ 46 ∷ r) ≡ length w + (1 + prefix_len (or_dot p) r) =
    leading_append (or_dot p) w (46 ∷ r) (with_dots p w h)
    ∙ ap (λ k. length w + k) (cond-true (or_dot p 46) (1 + prefix_len (or_dot p) r) 0 (or_right (p 46) (eqb 46 46) refl)) in (
      e,
      ap (λ k. pieces (take k (w ++ 46 ∷ r))) e
          ∙ ap pieces (take-append-add w (46 ∷ r) (1 + prefix_len (or_dot p) r))
          ∙ ap (λ k. pieces (w ++ take k (46 ∷ r))) (one-add (prefix_len (or_dot p) r))
          ∙ pieces-dot p d w (run (or_dot p) r) h,
    )

last_word : (p : ℕ → Bool) → p 46 ≡ false → (w r : List ℕ) → AllIn p w → prefix_len (or_dot p) r ≡ 0 →
    (prefix_len (or_dot p) (w ++ r) ≡ length w) × (pieces (run (or_dot p) (w ++ r)) ≡ w ∷ [])
last_word p d w r h z =
    let e : prefix_len (or_dot p) (w ++ r) ≡ length w = leading_is (or_dot p) w r (with_dots p w h) z in (
      e,
      ap (λ k. pieces (take k (w ++ r))) (e ∙ sym (add-zero (length w)))
          ∙ ap pieces (take-append-add w r 0 ∙ append-nil w)
          ∙ pieces_word p d w h,
    )

-- Where neither one that passes nor a dot comes next, the run of both ends.
run_ends : (p : ℕ → Bool) (r : List ℕ) → prefix_len p r ≡ 0 → (0 < length r → get_or r 0 0 ≡ 46 → ⊥) → prefix_len (or_dot p) r ≡ 0
run_ends p [] z n = refl
run_ends p (x ∷ r) z n =
    stops_at (or_dot p) x r
    (or_from (p x) (eqb x 46) (stopped p x r z) (ne_eqb x 46 (n (omega arith))))

-- A word takes no dot.
pub dotless : (word : Word) → word_octet word 46 ≡ false
unfolding atext let_dig
dotless Atom = refl
dotless Label = refl

-- The run of words and dots at the front of octets. W says what a word is.
abbrev pub WordsRun : (ℕ → Bool) → (List ℕ → Type 0) → List ℕ → Type 0
WordsRun p W xs = AllByRecursion W (pieces (run (or_dot p) xs))

-- The words before the rest are good, so that the rest decides.
pub record Left (p : ℕ → Bool) (W : List ℕ → Type 0) (s rest : List ℕ) : Type 0 where
  pub within : length rest ≤ length s
  pub longest : length s + prefix_len (or_dot p) rest ≡ length rest + prefix_len (or_dot p) s
  pub back : WordsRun p W rest → WordsRun p W s
  pub forth : WordsRun p W s → WordsRun p W rest

-- The longest run w that p passes, at the front of the rest, and what is behind it.
module _ (p : ℕ → Bool) (d : p 46 ≡ false) (W : List ℕ → Type 0) (s rest w behind : List ℕ) (left : Left p W s rest)
    (front : w ≡ run p rest) (back : behind ≡ drop (prefix_len p rest) rest) where
  octets : AllIn p w
  octets = subst (AllIn p) (sym front) (run_passes p rest)

  split : rest ≡ w ++ behind
  split = cc (take-append-drop (prefix_len p rest) rest)

  long : length rest ≡ length w + length behind
  long = ap length split ∙ length-append w behind

  stops : prefix_len p behind ≡ 0
  stops = ap (prefix_len p) back ∙ run_stops p rest

  -- no dot follows: the run ends there
  last_left : (0 < length behind → get_or behind 0 0 ≡ 46 → ⊥) →
      (prefix_len (or_dot p) rest ≡ length w) × (pieces (run (or_dot p) rest) ≡ w ∷ [])
  last_left n =
      let l = last_word p d w behind octets (run_ends p behind stops n) in
      (ap (prefix_len (or_dot p)) split ∙ l.0, ap (λ v. pieces (run (or_dot p) v)) split ∙ l.1)

  next_left : 0 < length behind → get_or behind 0 0 ≡ 46 →
      (prefix_len (or_dot p) rest ≡ length w + (1 + prefix_len (or_dot p) (drop 1 behind)))
      × (pieces (run (or_dot p) rest) ≡ w ∷ pieces (run (or_dot p) (drop 1 behind)))
  next_left l e =
      let n = next_word p d w (drop 1 behind) octets in
      let f : rest ≡ w ++ 46 ∷ drop 1 behind = split ∙ ap (λ v. w ++ v) (drop_more behind 0 0 l ∙ ap (λ x. x ∷ drop 1 behind) e) in
      (ap (prefix_len (or_dot p)) f ∙ n.0, ap (λ v. pieces (run (or_dot p) v)) f ∙ n.1)

  first_word : WordsRun p W rest → W w
  first_word h =
      elim (cases_lt 0 (length behind)) [
        | inl l ↦ elim (cases_eq (get_or behind 0 0) 46) [
          | inl e ↦ (subst (AllByRecursion W) (next_left l e).1 h).0
          | inr k ↦ (subst (AllByRecursion W) (last_left (λ _. k)).1 h).0
        ]
        | inr g ↦ (subst (AllByRecursion W) (last_left (λ l. absurd (omega arith))).1 h).0
      ]

  pub none_left : (W w → ⊥) → WordsRun p W s → ⊥
  none_left n h = n (first_word (left.forth h))

  pub more_left : W w → 0 < length behind → get_or behind 0 0 ≡ 46 → Left p W s (drop 1 behind)
  more_left g l e =
      let n = next_left l e in
      let k : length behind ≡ 1 + length (drop 1 behind) = omega (arith, length-drop 1 behind) in
      record {
        within = omega (arith, left.within, long, k);
        longest = omega (arith, left.longest, n.0, long, k);
        back = λ h. left.back (subst (AllByRecursion W) (sym n.1) (g, h));
        forth = λ h. (subst (AllByRecursion W) n.1 (left.forth h)).1;
      }

  pub done_left : W w → (0 < length behind → get_or behind 0 0 ≡ 46 → ⊥) →
      (length s - length behind ≡ prefix_len (or_dot p) s) × AllByRecursion W (pieces (take (length s - length behind) s))
  done_left g n =
      let l = last_left n in
      let e : length s - length behind ≡ prefix_len (or_dot p) s = omega (arith, left.within, left.longest, l.0, long) in
      (e, subst (λ (m : ℕ). AllByRecursion W (pieces (take m s))) (sym e) (left.back (subst (AllByRecursion W) (sym l.1) (g, tt))))
