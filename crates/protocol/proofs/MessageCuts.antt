-- The laws of messages, from the one cut into lines.
use Rattle.std.proofs.Common.{◌≡◌, ℕ, ◌+◌, Bool, true, false, eqb, ◌⊎◌, List, [], ◌∷◌, ◌++◌, length, codes, sym, refl, ap, ◌∙◌, subst, inl, inr, append_assoc, arith}
use Rattle.std.specs.List.{flat_map, AllByRecursion}
use Rattle.std.proofs.ByRecursion.{All-push}
use Rattle.std.proofs.lemmas.List.{append-nil, length-append, same_from_push}
use Rattle.std.proofs.lemmas.Bool.{eqb-true, eqb-false}
use Rattle.protocol.specs.Lines.{Unbroken, Lines, ended}
use Rattle.protocol.specs.Messages.{dot, Body, Message, Unfinished, MessageLaws, MessageFacts, carried}
use Rattle.protocol.proofs.Breaks.{unbroken_nil, unbroken_push}
use Rattle.protocol.proofs.Cuts.{cuts, lines_front}

-- The end line is the first that is just a dot.
first-dot : (ls ms cs : List (List ℕ)) → AllByRecursion Body ls → AllByRecursion Body ms → ms ++ (dot ∷ []) ≡ ls ++ (dot ∷ cs) → (cs ≡ []) × (ls ≡ ms)
first-dot [] [] cs a b e = (cc, refl)
first-dot [] (m ∷ ms) cs a b e = absurd (b.0 (cc))
first-dot (l ∷ ls) [] cs a b e = let p : dot ≡ l = cc in absurd (a.0 (sym p))
first-dot (l ∷ ls) (m ∷ ms) cs a b e =
    let t : ms ++ (dot ∷ []) ≡ ls ++ (dot ∷ cs) = cc in
    let r = first-dot ls ms cs a.1 b.1 t in
    let p : l ≡ m = cc in
    let q : ls ≡ ms = r.1 in
    (r.0, cc)

no_dot : (ls ms cs : List (List ℕ)) → AllByRecursion Body ms → ms ≡ ls ++ (dot ∷ cs) → ⊥
no_dot [] [] cs b e = let z : ◌≡◌ {A = ℕ} 0 1 = cc in omega arith
no_dot [] (m ∷ ms) cs b e = b.0 (cc)
no_dot (l ∷ ls) [] cs b e = let z : ◌≡◌ {A = ℕ} 0 1 = cc in omega arith
no_dot (l ∷ ls) (m ∷ ms) cs b e = let t : ms ≡ ls ++ (dot ∷ cs) = cc in no_dot ls ms cs b.1 t

-- The lines of a message, at the front of octets that are cut into lines.
goes_on : (a more p : List ℕ) (ms : List (List ℕ)) (rest : List ℕ) (m : Message a p) → Lines (a ++ more) ms rest → (cs : List (List ℕ)) × ((ms ≡ m.texts ++ (dot ∷ cs)) × (more ≡ flat_map ended cs ++ rest))
goes_on a more p ms rest m c =
    let ls = m.texts ++ (dot ∷ []) in
    let whole : flat_map ended ls ++ more ≡ flat_map ended ms ++ rest =
    sym (ap (λ t. t ++ more) (m.cut.whole ∙ append-nil (flat_map ended ls))) ∙ c.whole in
    let f = lines_front ls ms more rest m.cut.each c.each c.unended whole in
    (f.0, (f.1.0 ∙ append_assoc m.texts (dot ∷ []) f.0, f.1.1))

pub one : (a more p q : List ℕ) → Message a p → Message (a ++ more) q → (more ≡ []) × (p ≡ q)
one a more p q m n =
    let g = goes_on a more p (n.texts ++ (dot ∷ [])) [] m n.cut in
    let r = first-dot m.texts n.texts g.0 m.body n.body g.1.0 in
    (g.1.1 ∙ ap (λ t. flat_map ended t ++ []) r.0, m.carries ∙ ap (flat_map carried) r.1 ∙ sym n.carries)

pub apart : (a more p : List ℕ) → Message a p → Unfinished (a ++ more) → ⊥
apart a more p m u =
    let g = goes_on a more p u.texts u.rest m u.cut in
    no_dot m.texts u.texts g.0 u.body g.1.0

-- Whether a line is just a dot.
dotted : (l : List ℕ) → (l ≡ dot) ⊎ Body l
dotted [] = inr (λ e. let z : ◌≡◌ {A = ℕ} 0 1 = cc in omega arith)
dotted (x ∷ []) = go (eqb x 46) refl
  where
    go : (w : Bool) → eqb x 46 ≡ w → (x ∷ [] ≡ dot) ⊎ Body (x ∷ [])
    go true e = inl (ap (λ y. y ∷ []) (eqb-true x 46 e))
    go false e = inr (λ q. eqb-false x 46 e (cc))
dotted (x ∷ y ∷ l) = inr (λ e. let n : ◌≡◌ {A = ℕ} (length (x ∷ y ∷ l)) 1 = ap length e in omega arith)

abbrev Split : List (List ℕ) → Type 0
Split ls = AllByRecursion Body ls ⊎ ((front : List (List ℕ)) × ((back : List (List ℕ)) × ((ls ≡ front ++ (dot ∷ back)) × AllByRecursion Body front)))

split : (ls : List (List ℕ)) → Split ls
split [] = inl tt
split (l ∷ ls) =
    elim (dotted l) [
      | inl e ↦ inr ([], (ls, (ap (λ t. t ∷ ls) e, tt)))
      | inr b ↦
          elim (split ls) [
            | inl all ↦ inl (b, all)
            | inr g ↦ inr (l ∷ g.0, (g.1.0, (ap (λ t. l ∷ t) g.1.1.0, (b, g.1.1.1))))
          ]
    ]

joined_append : (ls ms : List (List ℕ)) → flat_map ended (ls ++ ms) ≡ flat_map ended ls ++ flat_map ended ms
joined_append [] ms = refl
joined_append (l ∷ ls) ms = ap (λ t. ended l ++ t) (joined_append ls ms) ∙ sym (append_assoc (ended l) (flat_map ended ls) (flat_map ended ms))

all_front : (P : List ℕ → Type 0) (ls ms : List (List ℕ)) → AllByRecursion P (ls ++ ms) → AllByRecursion P ls
all_front P [] ms a = tt
all_front P (l ∷ ls) ms a = (a.0, all_front P ls ms a.1)

abbrev Found : List ℕ → Type 0
Found a = Unfinished a ⊎ ((m : List ℕ) × ((more : List ℕ) × ((p : List ℕ) × ((a ≡ m ++ more) × Message m p))))

either : (a : List ℕ) → Found a
either a =
    let k = cuts a in
    let ls = k.0 in
    let rest = k.1.0 in
    let c = k.1.1 in
    elim (split ls) [
      | inl b ↦ inl (record { texts = ls; rest = rest; cut = c; body = b })
      | inr g ↦
          let front = g.0 in
          let back = g.1.0 in
          let head = front ++ (dot ∷ []) in
          let is : ls ≡ head ++ back = g.1.1.0 ∙ sym (append_assoc front (dot ∷ []) back) in
          let P : List (List ℕ) → Type 0 = λ t. AllByRecursion Unbroken t in
          inr (
            flat_map ended head,
            (
              flat_map ended back ++ rest,
              (
                flat_map carried front,
                (
                  c.whole ∙ ap (λ t. flat_map ended t ++ rest) is ∙ ap (λ t. t ++ rest) (joined_append head back) ∙ append_assoc (flat_map ended head) (flat_map ended back) rest,
                  record {
                    texts = front;
                    cut = record { whole = sym (append-nil (flat_map ended head)); each = all_front Unbroken head back (subst P is c.each); unended = unbroken_nil };
                    body = g.1.1.1;
                    carries = refl;
                  },
                ),
              ),
            ),
          )
    ]

within : (a : List ℕ) (b : ℕ) (more p : List ℕ) → Message (a ++ (b ∷ more)) p → Unfinished a
within a b more p m =
    elim (either a) [
      | inl u ↦ u
      | inr g ↦
          let w = g.0 in
          let y = g.1.0 in
          let P : List ℕ → Type 0 = λ t. Message t p in
          let e = (one w (y ++ (b ∷ more)) g.1.1.0 p g.1.1.1.1 (subst P (ap (λ t. t ++ (b ∷ more)) g.1.1.1.0 ∙ append_assoc w y (b ∷ more)) m)).0 in
          let n : length y + length (b ∷ more) ≡ 0 = sym (length-append y (b ∷ more)) ∙ ap length e in
          absurd (omega arith)
    ]

unbroken_dot : Unbroken dot
unbroken_dot = unbroken_push [] 46 unbroken_nil (λ _ _ e. let z : ◌≡◌ {A = ℕ} 46 10 = e in omega arith)

-- Any unfinished octets go on to a message: an a, CR LF and the end line.
begins : (a : List ℕ) → Unfinished a → (more : List ℕ) × ((p : List ℕ) × Message (a ++ more) p)
begins a u =
    let ls = u.texts in
    let rest = u.rest in
    let l = rest ++ (97 ∷ []) in
    let more : List ℕ = 97 ∷ 13 ∷ 10 ∷ 46 ∷ 13 ∷ 10 ∷ [] in
    let texts = ls ++ (l ∷ []) in
    let line : Unbroken l = unbroken_push rest 97 u.cut.unended (λ _ _ e. let z : ◌≡◌ {A = ℕ} 97 10 = e in omega arith) in
    let tail : flat_map ended (l ∷ dot ∷ []) ≡ rest ++ more = append_assoc l (13 ∷ 10 ∷ []) (46 ∷ 13 ∷ 10 ∷ []) ∙ append_assoc rest (97 ∷ []) (13 ∷ 10 ∷ 46 ∷ 13 ∷ 10 ∷ []) in
    let all : flat_map ended (texts ++ (dot ∷ [])) ≡ flat_map ended ls ++ (rest ++ more) = ap (flat_map ended) (append_assoc ls (l ∷ []) (dot ∷ [])) ∙ joined_append ls (l ∷ dot ∷ []) ∙ ap (λ t. flat_map ended ls ++ t) tail in (
      more,
      (
        flat_map carried texts,
        record {
          texts = texts;
          cut = record {
            whole = ap (λ t. t ++ more) u.cut.whole ∙ append_assoc (flat_map ended ls) rest more ∙ sym all ∙ sym (append-nil (flat_map ended (texts ++ (dot ∷ []))));
            each = All-push Unbroken texts dot (All-push Unbroken ls l u.cut.each line) unbroken_dot;
            unended = unbroken_nil;
          };
          body = All-push Body ls l u.body (λ e. let z : ◌≡◌ {A = ℕ} 97 46 = (same_from_push rest [] 97 46 e).1 in omega arith);
          carries = refl;
        },
      ),
    )

pub laws : MessageLaws
laws = record { one = one; apart = apart; begins = begins; within = within; either = either }

-- No CR, so no CR LF.
unbroken_clear : (xs : List ℕ) → AllByRecursion (λ x. x ≡ 13 → ⊥) xs → Unbroken xs
unbroken_clear [] all a b e = unbroken_nil a b e
unbroken_clear (x ∷ xs) all [] b e = all.0 (cc)
unbroken_clear (x ∷ xs) all (y ∷ a) b e = let t : xs ≡ a ++ (13 ∷ 10 ∷ b) = cc in unbroken_clear xs all.1 a b t

four : (w x y z : ℕ) → (w ≡ 13 → ⊥) → (x ≡ 13 → ⊥) → (y ≡ 13 → ⊥) → (z ≡ 13 → ⊥) → Unbroken (w ∷ x ∷ y ∷ z ∷ [])
four w x y z a b c d = unbroken_clear (w ∷ x ∷ y ∷ z ∷ []) (a, (b, (c, (d, tt))))

not_one : (w x y z : ℕ) → Body (w ∷ x ∷ y ∷ z ∷ [])
not_one w x y z e = let n : ◌≡◌ {A = ℕ} 4 1 = ap length e in omega arith

pub facts : MessageFacts
facts = record {
  empty = record { texts = []; cut = record { whole = refl; each = (unbroken_dot, tt); unended = unbroken_nil }; body = tt; carries = refl };
  dots = record {
    texts = codes "..hi" ∷ [];
    cut = record { whole = refl; each = (four 46 46 104 105 (λ e. omega arith) (λ e. omega arith) (λ e. omega arith) (λ e. omega arith), (unbroken_dot, tt)); unended = unbroken_nil };
    body = (not_one 46 46 104 105, tt);
    carries = refl;
  };
  bare = record {
    texts = codes "a\n.\n" ∷ [];
    cut = record { whole = refl; each = (four 97 10 46 10 (λ e. omega arith) (λ e. omega arith) (λ e. omega arith) (λ e. omega arith), (unbroken_dot, tt)); unended = unbroken_nil };
    body = (not_one 97 10 46 10, tt);
    carries = refl;
  };
}
