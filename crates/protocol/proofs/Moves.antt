-- How octets move the line that a data part is in, and what payload they bring.
use Rattle.std.proofs.Common.{◌≡◌, ℕ, Bool, true, false, cond, eqb, ◌⊎◌, List, [], ◌∷◌, ◌++◌, length, sym, refl, ap, ◌∙◌, subst, inl, inr, append_assoc, arith}
use Rattle.std.specs.List.{flat_map, AllByRecursion}
use Rattle.std.proofs.ByRecursion.{All-push}
use Rattle.std.proofs.lemmas.List.{append-nil, flat_map_more, same_from_push}
use Rattle.std.proofs.lemmas.Bool.{eqb-true, eqb-false, ne_eqb}
use Rattle.protocol.specs.declared.part.LinePlace.{LinePlace}
use Rattle.protocol.specs.declared.part.LinePlace.TheVariants.{Start, Inside, Cr, Dot, DotCr}
use Rattle.protocol.specs.Lines.{Lines, ended}
use Rattle.protocol.specs.Messages.{Body, undotted, carried}
use Rattle.protocol.specs.DataParts.{At, certain, known, inside}
use Rattle.protocol.proofs.Breaks.{pushed_some}
use Rattle.protocol.proofs.Cuts.{lines_on, lines_end}

pub record Moved (heard octets : List ℕ) (p p' : LinePlace) (texts : List (List ℕ)) (rest xs : List ℕ) : Type 0 where
  pub texts' : List (List ℕ)
  pub rest' : List ℕ
  pub cut : Lines (heard ++ octets) texts' rest'
  pub body : AllByRecursion Body texts'
  pub place : At p' rest'
  pub grows : known p texts rest ++ xs ≡ known p' texts' rest'

-- From one place the octets lead to another, and bring the payload xs.
pub record Moves (p : LinePlace) (octets : List ℕ) (p' : LinePlace) (xs : List ℕ) : Type 0 where
  pub from : (heard : List ℕ) (texts : List (List ℕ)) (rest : List ℕ) → Lines heard texts rest → AllByRecursion Body texts → At p rest → Moved heard octets p p' texts rest xs

pub moves_none : (p : LinePlace) → Moves p [] p []
moves_none p = record {
  from = λ heard texts rest c b at.
      let P : List ℕ → Type 0 = λ t. Lines t texts rest in
      record { texts' = texts; rest' = rest; cut = subst P (sym (append-nil heard)) c; body = b; place = at; grows = append-nil (known p texts rest) };
}

pub moves_both : (p q r : LinePlace) (os os' xs ys : List ℕ) → Moves p os q xs → Moves q os' r ys → Moves p (os ++ os') r (xs ++ ys)
moves_both p q r os os' xs ys f g = record {
  from = λ heard texts rest c b at.
      let m = f.from heard texts rest c b at in
      let n = g.from (heard ++ os) m.texts' m.rest' m.cut m.body m.place in
      let P : List ℕ → Type 0 = λ t. Lines t n.texts' n.rest' in
      record {
        texts' = n.texts';
        rest' = n.rest';
        cut = subst P (append_assoc heard os os') n.cut;
        body = n.body;
        place = n.place;
        grows = sym (append_assoc (known p texts rest) xs ys) ∙ ap (λ t. t ++ ys) m.grows ∙ n.grows;
      };
}

out : (w : Bool) (x : ℕ) (xs t : List ℕ) → cond w (xs ++ t) (x ∷ (xs ++ t)) ≡ cond w xs (x ∷ xs) ++ t
out true x xs t = refl
out false x xs t = refl

undot_more : (rest t : List ℕ) → (rest ≡ [] → ⊥) → undotted (rest ++ t) ≡ undotted rest ++ t
undot_more [] t some = absurd (some refl)
undot_more (x ∷ xs) t some = out (eqb x 46) x xs t

place_inside : (w : Bool) (rest : List ℕ) (b : ℕ) → eqb b 13 ≡ w → (rest ++ (b ∷ []) ≡ 46 ∷ [] → ⊥) → (rest ++ (b ∷ []) ≡ 46 ∷ 13 ∷ [] → ⊥) → At (cond w Cr Inside) (rest ++ (b ∷ []))
place_inside true rest b e m n = ((rest, ap (λ x. rest ++ (x ∷ [])) (eqb-true b 13 e)), n)
place_inside false rest b e m n = (pushed_some rest b, m, λ t q. eqb-false b 13 e (same_from_push rest t b 13 q).1)

certain-inside : (w : Bool) (rest : List ℕ) → undotted rest ≡ certain (cond w Cr Inside) rest
certain-inside true rest = refl
certain-inside false rest = refl

-- The line goes on, and is not the end line.
on : (p : LinePlace) (b : ℕ) (xs : List ℕ) (heard : List ℕ) (texts : List (List ℕ)) (rest : List ℕ) → Lines heard texts rest → AllByRecursion Body texts → ((t : List ℕ) → rest ≡ t ++ (13 ∷ []) → b ≡ 10 → ⊥) → (rest ++ (b ∷ []) ≡ 46 ∷ [] → ⊥) → (rest ++ (b ∷ []) ≡ 46 ∷ 13 ∷ [] → ⊥) → certain p rest ++ xs ≡ undotted (rest ++ (b ∷ [])) → Moved heard (b ∷ []) p (inside b) texts rest xs
on p b xs heard texts rest c all u m n k = record {
  texts' = texts;
  rest' = rest ++ (b ∷ []);
  cut = lines_on heard texts rest b c u;
  body = all;
  place = place_inside (eqb b 13) rest b refl m n;
  grows = append_assoc (flat_map carried texts) (certain p rest) xs ∙ ap (λ t. flat_map carried texts ++ t) (k ∙ certain-inside (eqb b 13) (rest ++ (b ∷ [])));
}

pub inside_on : (b : ℕ) → Moves Inside (b ∷ []) (inside b) (b ∷ [])
inside_on b = record {
  from = λ heard texts rest c all at.
      on Inside b (b ∷ []) heard texts rest c all (λ t e _. at.2 t e)
      (λ e. at.0 (same_from_push rest [] b 46 e).0)
      (λ e. at.1 (same_from_push rest (46 ∷ []) b 13 e).0)
      (sym (undot_more rest (b ∷ []) at.0));
}

pub cr_on : (b : ℕ) → (b ≡ 10 → ⊥) → Moves Cr (b ∷ []) (inside b) (b ∷ [])
cr_on b differs = record {
  from = λ heard texts rest c all at.
      let t = at.0.0 in
      let some : rest ≡ [] → ⊥ = λ e. pushed_some t 13 (sym at.0.1 ∙ e) in
      on Cr b (b ∷ []) heard texts rest c all (λ _ _ e. differs e)
      (λ e. some (same_from_push rest [] b 46 e).0)
      (λ e. let z : ◌≡◌ {A = ℕ} 13 46 = (same_from_push t [] 13 46 (sym at.0.1 ∙ (same_from_push rest (46 ∷ []) b 13 e).0)).1 in omega arith)
      (sym (undot_more rest (b ∷ []) some));
}

-- From a place at which the line is known.
moves_at : (p p' : LinePlace) (octets known-rest xs : List ℕ) → ((rest : List ℕ) → At p rest → rest ≡ known-rest) → ((heard : List ℕ) (texts : List (List ℕ)) → Lines heard texts known-rest → AllByRecursion Body texts → Moved heard octets p p' texts known-rest xs) → Moves p octets p' xs
moves_at p p' octets is xs at f = record {
  from = λ heard texts rest c all a.
      let P : List ℕ → Type 0 = λ r. Lines heard texts r → Moved heard octets p p' texts r xs in
      subst P (sym (at rest a)) (λ d. f heard texts d all) c;
}

pub start_on : (b : ℕ) → (b ≡ 46 → ⊥) → Moves Start (b ∷ []) (inside b) (b ∷ [])
start_on b differs =
    moves_at Start (inside b) (b ∷ []) [] (b ∷ []) (λ rest a. a)
    (λ heard texts c all.
    on Start b (b ∷ []) heard texts [] c all (λ t e _. pushed_some t 13 (sym e))
    (λ e. differs (same_from_push [] [] b 46 e).1)
    (λ e. let n : ◌≡◌ {A = ℕ} 1 2 = ap length e in omega arith)
    (ap (λ w. cond w [] (b ∷ [])) (sym (ne_eqb b 46 differs))))

pub dot_on : (b : ℕ) → (b ≡ 13 → ⊥) → Moves Dot (b ∷ []) (inside b) (b ∷ [])
dot_on b differs =
    moves_at Dot (inside b) (b ∷ []) (46 ∷ []) (b ∷ []) (λ rest a. a)
    (λ heard texts c all.
    on Dot b (b ∷ []) heard texts (46 ∷ []) c all (λ t e _. let z : ◌≡◌ {A = ℕ} 46 13 = (same_from_push [] t 46 13 e).1 in omega arith)
    (λ e. let n : ◌≡◌ {A = ℕ} 2 1 = ap length e in omega arith)
    (λ e. differs (same_from_push (46 ∷ []) (46 ∷ []) b 13 e).1)
    refl)

pub dotcr_on : (b : ℕ) → (b ≡ 10 → ⊥) → Moves DotCr (b ∷ []) (inside b) (13 ∷ b ∷ [])
dotcr_on b differs =
    moves_at DotCr (inside b) (b ∷ []) (46 ∷ 13 ∷ []) (13 ∷ b ∷ []) (λ rest a. a)
    (λ heard texts c all.
    on DotCr b (13 ∷ b ∷ []) heard texts (46 ∷ 13 ∷ []) c all (λ _ _ e. differs e)
    (λ e. let n : ◌≡◌ {A = ℕ} 3 1 = ap length e in omega arith)
    (λ e. let n : ◌≡◌ {A = ℕ} 3 2 = ap length e in omega arith)
    refl)

-- The line may yet prove to be the end line.
wait : (p p' : LinePlace) (is : List ℕ) (b : ℕ) → ((t : List ℕ) → is ≡ t ++ (13 ∷ []) → b ≡ 10 → ⊥) → ((rest : List ℕ) → At p rest → rest ≡ is) → At p' (is ++ (b ∷ [])) → certain p is ≡ [] → certain p' (is ++ (b ∷ [])) ≡ [] → Moves p (b ∷ []) p' []
wait p p' is b u at at' n n' =
    moves_at p p' (b ∷ []) is [] at
    (λ heard texts c all.
    record {
      texts' = texts;
      rest' = is ++ (b ∷ []);
      cut = lines_on heard texts is b c u;
      body = all;
      place = at';
      grows = append-nil (known p texts is) ∙ ap (λ t. flat_map carried texts ++ t) (n ∙ sym n');
    })

pub start_dot : (b : ℕ) → b ≡ 46 → Moves Start (b ∷ []) Dot []
start_dot b e =
    wait Start Dot [] b (λ t q _. pushed_some t 13 (sym q)) (λ rest a. a) (ap (λ x. x ∷ []) e) refl refl

pub dot-cr : (b : ℕ) → b ≡ 13 → Moves Dot (b ∷ []) DotCr []
dot-cr b e =
    wait Dot DotCr (46 ∷ []) b (λ t q _. let z : ◌≡◌ {A = ℕ} 46 13 = (same_from_push [] t 46 13 q).1 in omega arith) (λ rest a. a) (ap (λ x. 46 ∷ x ∷ []) e) refl refl

-- A line ends.
cr_lf10 : Moves Cr (10 ∷ []) Start (10 ∷ [])
cr_lf10 = record {
  from = λ heard texts rest c all at.
      let t = at.0.0 in
      let is : rest ≡ t ++ (13 ∷ []) = at.0.1 in
      let shut : rest ++ (10 ∷ []) ≡ ended t = ap (λ k. k ++ (10 ∷ [])) is ∙ append_assoc t (13 ∷ []) (10 ∷ []) in
      record {
        texts' = texts ++ (t ∷ []);
        rest' = [];
        cut = lines_end heard texts rest t c is;
        body = All-push Body texts t all (λ e. at.1 (is ∙ ap (λ k. k ++ (13 ∷ [])) e));
        place = refl;
        grows =
            append_assoc (flat_map carried texts) (undotted rest) (10 ∷ [])
            ∙ ap (λ k. flat_map carried texts ++ k) (sym (undot_more rest (10 ∷ []) (λ e. pushed_some t 13 (sym is ∙ e))) ∙ ap undotted shut)
            ∙ flat_map_more carried [] texts t ∙ sym (append-nil (flat_map carried (texts ++ (t ∷ []))));
      };
}

pub cr_lf : (b : ℕ) → b ≡ 10 → Moves Cr (b ∷ []) Start (b ∷ [])
cr_lf b e = let P : ℕ → Type 0 = λ x. Moves Cr (x ∷ []) Start (x ∷ []) in subst P (sym e) cr_lf10

-- A run with no CR, past a line's front.
pub run_on : (run : List ℕ) → AllByRecursion (λ x. x ≡ 13 → ⊥) run → Moves Inside run Inside run
run_on [] all = moves_none Inside
run_on (x ∷ run) all =
    let P : Bool → Type 0 = λ w. Moves Inside (x ∷ []) (cond w Cr Inside) (x ∷ []) in
    moves_both Inside Inside Inside (x ∷ []) run (x ∷ []) run (subst P (ne_eqb x 13 all.0) (inside_on x)) (run_on run all.1)

-- Every octet moves the line, or ends the message.
abbrev pub Step : LinePlace → ℕ → Type 0
Step p b = ((q : LinePlace) × ((xs : List ℕ) × Moves p (b ∷ []) q xs)) ⊎ ((p ≡ DotCr) × (b ≡ 10))

pub step : (p : LinePlace) (b : ℕ) → Step p b
step Inside b = inl (inside b, (b ∷ [], inside_on b))
step Start b = go (eqb b 46) refl
  where
    go : (w : Bool) → eqb b 46 ≡ w → Step Start b
    go true e = inl (Dot, ([], start_dot b (eqb-true b 46 e)))
    go false e = inl (inside b, (b ∷ [], start_on b (eqb-false b 46 e)))
step Dot b = go (eqb b 13) refl
  where
    go : (w : Bool) → eqb b 13 ≡ w → Step Dot b
    go true e = inl (DotCr, ([], dot-cr b (eqb-true b 13 e)))
    go false e = inl (inside b, (b ∷ [], dot_on b (eqb-false b 13 e)))
step Cr b = go (eqb b 10) refl
  where
    go : (w : Bool) → eqb b 10 ≡ w → Step Cr b
    go true e = inl (Start, (b ∷ [], cr_lf b (eqb-true b 10 e)))
    go false e = inl (inside b, (b ∷ [], cr_on b (eqb-false b 10 e)))
step DotCr b = go (eqb b 10) refl
  where
    go : (w : Bool) → eqb b 10 ≡ w → Step DotCr b
    go true e = inr (refl, eqb-true b 10 e)
    go false e = inl (inside b, (13 ∷ b ∷ [], dotcr_on b (eqb-false b 10 e)))
