-- The local part and the domain at the front of octets.
use Rattle.std.specs.Option.{option_eq}
use Rattle.std.proofs.Common.{Decides, ◌≡◌, ℕ, ◌<◌, ◌≤◌, Bool, true, false, cond, eqb, ◌⊎◌, List, [], ◌∷◌, ◌++◌, length, get_or, take, drop, Some, None, Option, sym, refl, ap, ◌∙◌, subst, inl, inr, arith, MatchOption}
use Rattle.std.specs.List.{onto_first, prefix_len, flat_map, AllByRecursion}
use Rattle.std.proofs.lemmas.List.{length-append, append-nil, take-append-drop, take_at, take_all, length-take-le, drop_more}
use Rattle.std.proofs.ByRecursion.{All-weaker}
use Rattle.std.proofs.lemmas.List.Sums.{prefix_len-le-length}
use Rattle.std.proofs.lemmas.Bool.{false≢true, eqb-true, eq-eqb, or_left, or_right}
use Rattle.address.specs.Classes.{atext, let_dig}
use Rattle.address.specs.Words.{AllIn, run, pieces, or_dot, label_octet, IsAtom, IsLabel, Dotted}
use Rattle.address.specs.Parts.{spelling, Quoted, QuotedAt, LocalForm, LocalAt, DomainAt, IsLocal, IsDomain, Only}
use Rattle.address.specs.declared.words.Word.TheVariants.{Atom, Label}
use Rattle.address.proofs.Runs.{stops_at, leading_is}

pub weaken : {P P' : Type 0} {Q Q' : ℕ → Type 0} (r : Option ℕ) → (P → P') → ((n : ℕ) → Q n → Q' n) → MatchOption r P Q → MatchOption r P' Q'
weaken None f g h = f h
weaken (Some n) f g h = g n h

atom_34 : or_dot atext 34 ≡ false
unfolding atext let_dig
atom_34 = refl

-- Octets that begin with a quote mark begin with no atom.
no_atoms : (xs : List ℕ) (n : ℕ) → 0 < length xs → get_or xs 0 0 ≡ 34 → n ≡ prefix_len (or_dot atext) xs → Dotted Atom (take n xs) → ⊥
no_atoms xs n s o e d =
    let z : prefix_len (or_dot atext) xs ≡ 0 =
    ap (prefix_len (or_dot atext)) (drop_more xs 0 0 s ∙ ap (λ x. x ∷ drop 1 xs) o) ∙ stops_at (or_dot atext) 34 (drop 1 xs) atom_34 in
    let h = subst (λ (k : ℕ). Dotted Atom (take k xs)) (e ∙ z) d in
    omega (arith, h.0.some)

-- A quoted local part begins with a quote mark.
pub opens : (xs : List ℕ) (n : ℕ) → QuotedAt xs n → (0 < length xs) × (get_or xs 0 0 ≡ 34)
opens xs n q =
    let f : xs ≡ 34 ∷ ((flat_map spelling q.form.inner ++ 34 ∷ []) ++ drop n xs) =
    sym (take-append-drop n xs) ∙ ap (λ v. v ++ drop n xs) q.form.spelt in
    (omega (arith, ap length f), ap (λ v. get_or v 0 0) f)

-- A quoted local part, or else atoms.
only_quoted : (xs : List ℕ) (n : ℕ) → Only (QuotedAt xs) n → Only (LocalForm xs) n
only_quoted xs n h = record { holds = inl h.holds; alone = go }
  where
    go : (m : ℕ) → LocalForm xs m → m ≡ n
    go m (inl q) = h.alone m q
    go m (inr a) = let o = opens xs n h.holds in absurd (no_atoms xs m o.0 o.1 a.0 a.1)

pub either_form : (xs : List ℕ) (q r : Option ℕ) → MatchOption q ((n : ℕ) → QuotedAt xs n → ⊥) (Only (QuotedAt xs)) →
    MatchOption q (MatchOption r (Dotted Atom (run (or_dot atext) xs) → ⊥) (λ n. (n ≡ prefix_len (or_dot atext) xs) × Dotted Atom (take n xs))) (λ n. r ≡ Some n) →
    MatchOption r ((n : ℕ) → LocalForm xs n → ⊥) (Only (LocalForm xs))
either_form xs (Some n) r h e = rw e (only_quoted xs n h)
either_form xs None None h d = λ n.
    elim [ inl q ↦ h n q | inr a ↦ d (subst (λ (k : ℕ). Dotted Atom (take k xs)) a.0 a.1) ]
either_form xs None (Some n) h d = record { holds = inr d; alone = go }
  where
    go : (m : ℕ) → LocalForm xs m → m ≡ n
    go m (inl q) = absurd (h m q)
    go m (inr a) = a.0 ∙ sym d.0

pub none_atoms : (xs : List ℕ) → (0 < length xs → get_or xs 0 0 ≡ 34 → ⊥) → (Dotted Atom (run (or_dot atext) xs) → ⊥) → (n : ℕ) → LocalForm xs n → ⊥
none_atoms xs o h n (inl q) = o (opens xs n q).0 (opens xs n q).1
none_atoms xs o h n (inr a) = h (subst (λ (k : ℕ). Dotted Atom (take k xs)) a.0 a.1)

pub only_atoms : (xs : List ℕ) → (0 < length xs → get_or xs 0 0 ≡ 34 → ⊥) → (n : ℕ) → (n ≡ prefix_len (or_dot atext) xs) × Dotted Atom (take n xs) → Only (LocalForm xs) n
only_atoms xs o n h = record { holds = inr h; alone = go }
  where
    go : (m : ℕ) → LocalForm xs m → m ≡ n
    go m (inl q) = absurd (o (opens xs m q).0 (opens xs m q).1)
    go m (inr a) = a.0 ∙ sym h.0

-- Where each piece between the dots passes, each octet passes or is a dot.
with_first : (p : ℕ → Bool) (x : ℕ) (ws : List (List ℕ)) → AllByRecursion (AllIn p) (onto_first x ws) → (p x ≡ true) × AllByRecursion (AllIn p) ws
with_first p x [] h = (h.0.0, tt)
with_first p x (w ∷ ws) h = (h.0.0, (h.0.1, h.1))

pieces_pass : (p : ℕ → Bool) (xs : List ℕ) → AllByRecursion (AllIn p) (pieces xs) → AllIn (or_dot p) xs
pieces_pass p [] h = tt
pieces_pass p (x ∷ xs) h = go (pieces_pass p xs) (eqb x 46) refl h
  where
    go : (AllByRecursion (AllIn p) (pieces xs) → AllIn (or_dot p) xs) → (b : Bool) → eqb x 46 ≡ b →
        AllByRecursion (AllIn p) (cond b ([] ∷ pieces xs) (onto_first x (pieces xs))) → AllIn (or_dot p) (x ∷ xs)
    go f true e h = (or_right (p x) (eqb x 46) e, f h.1)
    go f false e h = let k = with_first p x (pieces xs) h in (or_left (p x) (eqb x 46) k.0, f k.1)

pub atoms_pass : (xs : List ℕ) → Dotted Atom xs → AllIn (or_dot atext) xs
atoms_pass xs h = pieces_pass atext xs (All-weaker IsAtom (AllIn atext) (λ w a. a.octets) (pieces xs) h)

labels_pass : (xs : List ℕ) → Dotted Label xs → AllIn (or_dot label_octet) xs
labels_pass xs h = pieces_pass label_octet xs (All-weaker IsLabel (AllIn label_octet) (λ w a. a.octets) (pieces xs) h)

-- A local part, and what goes on with nothing that one takes.
pub local_front : (xs r : List ℕ) → IsLocal xs → prefix_len (or_dot atext) r ≡ 0 → LocalAt (xs ++ r) (length xs)
local_front xs r h z = record { form = go h.form; few = h.few }
  where
    t : take (length xs) (xs ++ r) ≡ xs
    t = take_at xs r (length xs) refl

    go : Quoted xs ⊎ Dotted Atom xs → LocalForm (xs ++ r) (length xs)
    go (inl q) = inl (record { within = omega (arith, length-append xs r); form = subst Quoted (sym t) q })
    go (inr d) = inr (sym (leading_is (or_dot atext) xs r (atoms_pass xs d) z), subst (Dotted Atom) (sym t) d)

pub domain_front : (xs r : List ℕ) → IsDomain xs → prefix_len (or_dot label_octet) r ≡ 0 → DomainAt (xs ++ r) (length xs)
domain_front xs r h z = record {
  longest = sym (leading_is (or_dot label_octet) xs r (labels_pass xs h.labels) z);
  labels = subst (Dotted Label) (sym (take_at xs r (length xs) refl)) h.labels;
  few = h.few;
}

pub local-within : (xs : List ℕ) (n : ℕ) → LocalAt xs n → n ≤ length xs
local-within xs n h = go h.form
  where
    go : LocalForm xs n → n ≤ length xs
    go (inl q) = q.within
    go (inr a) = omega (arith, a.0, prefix_len-le-length (or_dot atext) xs)

pub domain-within : (xs : List ℕ) (n : ℕ) → DomainAt xs n → n ≤ length xs
domain-within xs n h = omega (arith, h.longest, prefix_len-le-length (or_dot label_octet) xs)

pub local_is : (xs : List ℕ) (n : ℕ) → LocalAt xs n → IsLocal (take n xs)
local_is xs n h = record { form = go h.form; few = omega (arith, h.few, length-take-le n xs (local-within xs n h)) }
  where
    go : LocalForm xs n → Quoted (take n xs) ⊎ Dotted Atom (take n xs)
    go (inl q) = inl q.form
    go (inr a) = inr a.1

pub domain_is : (xs : List ℕ) (n : ℕ) → DomainAt xs n → IsDomain (take n xs)
domain_is xs n h = record { labels = h.labels; few = omega (arith, h.few, length-take-le n xs (domain-within xs n h)) }

-- Octets are a local part or a domain where the one at their front is all of them.
pub local-whole : (xs : List ℕ) → IsLocal xs → LocalAt xs (length xs)
local-whole xs h = subst (λ (v : List ℕ). LocalAt v (length xs)) (append-nil xs) (local_front xs [] h refl)

pub domain-whole : (xs : List ℕ) → IsDomain xs → DomainAt xs (length xs)
domain-whole xs h = subst (λ (v : List ℕ). DomainAt v (length xs)) (append-nil xs) (domain_front xs [] h refl)

-- What stands at the front of octets is all of them where it has as many.
all_of : (xs : List ℕ) (At : ℕ → Type 0) (Is : Type 0) (r : Option ℕ) → MatchOption r ((n : ℕ) → At n → ⊥) (Only At) →
    (At (length xs) → Is) → (Is → At (length xs)) → (b : Bool) → b ≡ option_eq eqb r (Some (length xs)) → Decides b Is
all_of xs At Is None h f g b e = (λ t. absurd (false≢true (sym e ∙ t)), λ i. absurd (h (length xs) (g i)))
all_of xs At Is (Some n) h f g b e = (
  λ t. f (subst At (eqb-true n (length xs) (sym e ∙ t)) h.holds),
  λ i. e ∙ eq-eqb n (length xs) (sym (h.alone (length xs) (g i))),
)

pub all_local : (xs : List ℕ) (r : Option ℕ) → MatchOption r ((n : ℕ) → LocalAt xs n → ⊥) (λ n. Only (LocalAt xs) n) →
    (b : Bool) → b ≡ option_eq eqb r (Some (length xs)) → Decides b (IsLocal xs)
all_local xs r h =
    all_of xs (LocalAt xs) (IsLocal xs) r h
    (λ l. subst IsLocal (take_all (length xs) xs (omega arith)) (local_is xs (length xs) l)) (local-whole xs)

pub all_domain : (xs : List ℕ) (r : Option ℕ) → MatchOption r ((n : ℕ) → DomainAt xs n → ⊥) (DomainAt xs) →
    (b : Bool) → b ≡ option_eq eqb r (Some (length xs)) → Decides b (IsDomain xs)
all_domain xs r h =
    all_of xs (DomainAt xs) (IsDomain xs) r
    (weaken r (λ f. f) (λ n d. record { holds = d; alone = λ m k. k.longest ∙ sym d.longest }) h)
    (λ d. subst IsDomain (take_all (length xs) xs (omega arith)) (domain_is xs (length xs) d)) (domain-whole xs)
