-- The worked examples hold.
use Rattle.std.proofs.Common.{◌≡◌, ℕ, ◌<◌, ◌≤◌, List, [], ◌∷◌, ◌++◌, length, get_or, take, codes, refl, ap, subst, inl, inr, arith}
use Rattle.std.proofs.lemmas.Bool.{false≢true}
use Rattle.address.specs.Classes.{atext, let_dig}
use Rattle.address.specs.Words.{AllIn, or_dot, IsAtom, IsLabel, Dotted}
use Rattle.address.specs.Parts.{LocalForm, LocalAt, DomainAt, IsDomain, Only}
use Rattle.paths.specs.Examples.{Examples}
use Rattle.address.specs.declared.words.Word.TheVariants.{Atom, Label}
use Rattle.address.proofs.Runs.{passes_apart, leading_is}
use Rattle.address.proofs.Fronts.{none_atoms, only_atoms, opens, atoms_pass}
use Rattle.paths.proofs.Reading.{no_local, no_label, no_closing}

atom_a : IsAtom (97 ∷ [])
unfolding atext let_dig
atom_a = record { some = omega arith; octets = (refl, tt) }

label_b : IsLabel (98 ∷ [])
unfolding let_dig
label_b = record { some = omega arith; few = omega arith; octets = (refl, tt); first = refl; last = refl }

domain_b : IsDomain (98 ∷ [])
domain_b = record { labels = (label_b, tt); few = omega arith }

only_local : (xs : List ℕ) (n : ℕ) → Only (LocalForm xs) n → n ≤ 64 → Only (LocalAt xs) n
only_local xs n h l = record { holds = record { form = h.holds; few = l }; alone = λ m k. h.alone m k.form }

-- "a" before "@".
local_a : (r : List ℕ) → Only (LocalAt (97 ∷ 64 ∷ r)) 1
unfolding atext let_dig
local_a r =
    only_local (97 ∷ 64 ∷ r) 1 (only_atoms (97 ∷ 64 ∷ r) (λ _ e. omega arith) 1 (refl, (atom_a, tt))) (omega arith)

dots_none : (n : ℕ) → LocalAt (codes "a..b@c>") n → ⊥
unfolding atext let_dig
dots_none n l = none_atoms (codes "a..b@c>") (λ _ e. omega arith) (λ d. omega (arith, d.1.0.some)) n l.form

hyphen_none : (m : ℕ) → DomainAt (codes "-b>") m → ⊥
unfolding let_dig
hyphen_none m d =
    let k = subst (λ (m : ℕ). Dotted Label (take m (codes "-b>"))) d.longest d.labels in
    false≢true k.0.first

domain_at_b : DomainAt (98 ∷ []) 1
unfolding let_dig
domain_at_b = record { longest = refl; labels = (label_b, tt); few = omega arith }

begins : (w r : List ℕ) → AllIn (or_dot atext) w → 0 < length w → get_or (w ++ r) 0 0 ≡ 34 → ⊥
unfolding atext let_dig
begins [] r h l e = omega arith
begins (x ∷ w) r h l e = passes_apart (or_dot atext) x 34 h.0 refl e

long_none : (w : List ℕ) → Dotted Atom w → length w ≡ 65 → (n : ℕ) → LocalAt (w ++ codes "@b>") n → ⊥
unfolding atext let_dig
long_none w d l n k = go k.form
  where
    go : LocalForm (w ++ codes "@b>") n → ⊥
    go (inl q) = begins w (codes "@b>") (atoms_pass w d) (omega arith) (opens (w ++ codes "@b>") n q).1
    go (inr a) = omega (arith, k.few, a.0, leading_is (or_dot atext) w (codes "@b>") (atoms_pass w d) refl)

pub examples : Examples
examples = record {
  reads = record {
    local = 97 ∷ [];
    domain = 98 ∷ [];
    rest = [];
    spelt = refl;
    is_local = record { form = inr (atom_a, tt); few = omega arith };
    is_domain = domain_b;
    at_sign = refl;
    ends = refl;
  };
  dots = no_local (codes "<a..b@c>") (codes "a..b@c>") refl dots_none;
  hyphen = no_label (codes "<a@-b>") (codes "a@-b>") refl 1 (local_a (codes "-b>")) (codes "-b>") refl hyphen_none;
  unclosed = no_closing (codes "<a@b") (codes "a@b") refl 1 (local_a (codes "b")) (codes "b") refl 1 domain_at_b (λ ys e. omega (arith, ap length e));
  longest = λ w d l. record {
    local = w;
    domain = 98 ∷ [];
    rest = [];
    spelt = refl;
    is_local = record { form = inr d; few = omega arith };
    is_domain = domain_b;
    at_sign = omega arith;
    ends = refl;
  };
  too_long = λ w d l. no_local (60 ∷ (w ++ codes "@b>")) (w ++ codes "@b>") refl (long_none w d l);
}
