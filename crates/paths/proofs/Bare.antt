-- "<>" and "<Postmaster>" are no paths.
use Rattle.std.proofs.Common.{◌≡◌, ℕ, ◌-◌, ◌≤◌, true, false, eqb, List, [], ◌∷◌, ◌++◌, map, length, get_or, take, drop, codes, sym, refl, ap, ◌∙◌, subst, arith}
use Rattle.std.specs.List.{prefix_len, AllByRecursion}
use Rattle.std.specs.Char.{to_ascii_lowercase}
use Rattle.std.proofs.ByRecursion.{All-weaker}
use Rattle.std.proofs.lemmas.List.{length-map, drop_at, take_at}
use Rattle.std.proofs.lemmas.Bool.{or_left}
use Rattle.std.proofs.lemmas.Bool.Decides.{nat_tests}
use Rattle.address.specs.Classes.{atext, let_dig}
use Rattle.address.specs.Words.{AllIn, or_dot, Dotted, IsAtom}
use Rattle.address.specs.Parts.{LocalForm, LocalAt, Only}
use Rattle.paths.specs.Paths.{PathAt}
use Rattle.address.specs.Comparison.{IsPostmaster}
use Rattle.paths.specs.Envelopes.{NullAt, PostmasterAt, ReverseAt, ForwardAt, local_part, IsLocalOf}
use Rattle.paths.specs.declared.envelope.ReversePath.{ReversePath}
use Rattle.paths.specs.declared.envelope.ReversePath.TheVariants.{Sender, Null}
use Rattle.paths.specs.declared.envelope.ForwardPath.{ForwardPath}
use Rattle.paths.specs.declared.envelope.ForwardPath.TheVariants.{Recipient, Postmaster}
use Rattle.paths.specs.declared.path.Path.{Path}
use Rattle.address.specs.declared.words.Word.TheVariants.{Atom}
use Rattle.address.proofs.Runs.{passes_apart, stops_at, leading_is, pieces_word}
use Rattle.address.proofs.Fronts.{none_atoms, only_atoms}
use Rattle.paths.proofs.Reading.{parts_of}

atom_62 : or_dot atext 62 ≡ false
unfolding atext let_dig
atom_62 = refl

atom_34 : atext 34 ≡ false
unfolding atext let_dig
atom_34 = refl

atom_46 : atext 46 ≡ false
unfolding atext let_dig
atom_46 = refl

pub no_null : (xs : List ℕ) (p : Path) → NullAt xs → PathAt xs p → ⊥
no_null xs p z q =
    let h = parts_of xs p q in
    let ys : List ℕ = 62 ∷ z.rest in
    let e : h.rest ≡ ys = ap (drop 1) (sym h.opened ∙ z.spelt) in
    let l : LocalForm ys h.n = (subst (λ (v : List ℕ). LocalAt v h.n) e h.local).form in
    let s : prefix_len (or_dot atext) ys ≡ 0 = stops_at (or_dot atext) 62 z.rest atom_62 in
    none_atoms ys (λ _ k. omega arith) (λ d. let w = subst (λ (k : ℕ). Dotted Atom (take k ys)) s d in omega (arith, w.0.some)) h.n l

-- What is a letter in lower case is a letter.
letter : (x y : ℕ) → to_ascii_lowercase x ≡ y → 97 ≤ y → y ≤ 122 → let_dig x ≡ true
unfolding let_dig
letter x y e l h = grind (arith, nat_tests)

letters : (xs ys : List ℕ) → map to_ascii_lowercase xs ≡ ys → AllByRecursion (λ y. (97 ≤ y) × (y ≤ 122)) ys → AllIn atext xs
unfolding atext
letters [] ys e h = tt
letters (x ∷ xs) [] e h = absurd (omega (arith, ap length e))
letters (x ∷ xs) (y ∷ ys) e h =
    (or_left (let_dig x) _ (letter x y (ap (λ v. get_or v 0 0) e) h.0.0 h.0.1), letters xs ys (ap (drop 1) e) h.1)

small : AllByRecursion (λ y. (97 ≤ y) × (y ≤ 122)) (codes "postmaster")
small = search arith

pub postmaster-octets : (xs : List ℕ) → IsPostmaster xs → AllIn atext xs
postmaster-octets xs h = letters xs (codes "postmaster") h small

pub postmaster-length : (xs : List ℕ) → IsPostmaster xs → length xs ≡ 10
postmaster-length xs h = sym (length-map xs to_ascii_lowercase) ∙ ap length h

unquoted : (xs r : List ℕ) → AllIn atext xs → length xs ≡ 10 → get_or (xs ++ r) 0 0 ≡ 34 → ⊥
unquoted [] r h l e = omega arith
unquoted (x ∷ xs) r h l e = passes_apart atext x 34 h.0 atom_34 e

pub no_postmaster : (xs : List ℕ) (p : Path) → PostmasterAt xs → PathAt xs p → ⊥
no_postmaster xs p z q =
    let h = parts_of xs p q in
    let w = z.name in
    let ys : List ℕ = w ++ 62 ∷ z.rest in
    let e : h.rest ≡ ys = ap (drop 1) (sym h.opened ∙ z.spelt) in
    let l : LocalForm ys h.n = (subst (λ (v : List ℕ). LocalAt v h.n) e h.local).form in
    let a = postmaster-octets w z.is_postmaster in
    let t = postmaster-length w z.is_postmaster in
    let dots = All-weaker (λ x. atext x ≡ true) (λ x. or_dot atext x ≡ true) (λ x k. or_left (atext x) (eqb x 46) k) w a in
    let n : prefix_len (or_dot atext) ys ≡ length w = leading_is (or_dot atext) w (62 ∷ z.rest) dots (stops_at (or_dot atext) 62 z.rest atom_62) in
    let atom : IsAtom w = record { some = omega (arith, t); octets = a } in
    let d : Dotted Atom w = subst (AllByRecursion IsAtom) (sym (pieces_word atext atom_46 w a)) (atom, tt) in
    let d' : Dotted Atom (take (length w) ys) = subst (Dotted Atom) (sym (take_at w (62 ∷ z.rest) (length w) refl)) d in
    let only = only_atoms ys (λ _. unquoted w (62 ∷ z.rest) a t) (length w) (sym n, d') in
    let f : 64 ∷ h.after ≡ 62 ∷ z.rest =
    sym h.at_sign ∙ ap (λ k. drop k h.rest) (only.alone h.n l) ∙ ap (drop (length w)) e ∙ drop_at w (62 ∷ z.rest) (length w) refl in
    let g : ◌≡◌ {A = ℕ} 64 62 = ap (λ v. get_or v 0 0) f in
    omega arith

pub null_only : (xs : List ℕ) → NullAt xs → Only (ReverseAt xs) Null
null_only xs z = record { holds = z; alone = go }
  where
    go : (b : ReversePath) → ReverseAt xs b → b ≡ Null
    go (Sender p) q = absurd (no_null xs p z q)
    go Null q = refl

pub postmaster_only : (xs : List ℕ) → PostmasterAt xs → Only (ForwardAt xs) Postmaster
postmaster_only xs z = record { holds = z; alone = go }
  where
    go : (b : ForwardPath) → ForwardAt xs b → b ≡ Postmaster
    go (Recipient p) q = absurd (no_postmaster xs p z q)
    go Postmaster q = refl

-- Where the name and ">" stand.
pub postmaster-name : (xs : List ℕ) (h : PostmasterAt xs) → take 10 (drop 1 xs) ≡ h.name
postmaster-name xs h =
    ap (λ v. take 10 (drop 1 v)) h.spelt ∙ take_at h.name (62 ∷ h.rest) 10 (postmaster-length h.name h.is_postmaster)

pub postmaster_closed : (xs : List ℕ) (h : PostmasterAt xs) → drop 11 xs ≡ 62 ∷ h.rest
postmaster_closed xs h =
    ap (drop 11) h.spelt ∙ drop_at h.name (62 ∷ h.rest) 10 (postmaster-length h.name h.is_postmaster)

-- The local part of a path that a line begins with.
pub local_means : (line : List ℕ) (path : ForwardPath) (xs : List ℕ) → xs ≡ local_part line path → IsLocalOf line path xs
local_means line (Recipient p) xs e = λ h.
    let m : length h.local ≡ p.at - 1 = omega (arith, h.at_sign) in
    e ∙ ap (λ v. take (p.at - 1) (drop 1 v)) h.spelt ∙ take_at h.local (64 ∷ (h.domain ++ 62 ∷ h.rest)) (p.at - 1) m
local_means line Postmaster xs e = λ h. e ∙ postmaster-name line h
