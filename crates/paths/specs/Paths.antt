-- Paths: "<" (60), a local part, "@" (64), a domain, ">" (62).
use Rattle.std.specs.Prelude.{◌≡◌, ℕ, ◌+◌, ◌⊎◌, List, ◌∷◌, ◌++◌, length, drop, ◌≢◌}
use Rattle.address.specs.Parts.{IsLocal, IsDomain, LocalAt, DomainAt}
use Rattle.paths.specs.declared.path.Path.{Path}
use Rattle.paths.specs.declared.path.PathFault.{PathFault}
use Rattle.paths.specs.declared.path.PathFault.TheVariants.{NoOpening, BadLocalPart, BadDomain, NoClosing}

-- The octets begin with a path, whose "@" and end lie where p says.
pub record PathAt (xs : List ℕ) (p : Path) : Type 0 where
  pub local : List ℕ
  pub domain : List ℕ
  pub rest : List ℕ
  pub spelt : xs ≡ 60 ∷ (local ++ 64 ∷ (domain ++ 62 ∷ rest))
  pub is_local : IsLocal local
  pub is_domain : IsDomain domain
  pub at_sign : p.at ≡ 1 + length local
  pub ends : p.end ≡ p.at + length domain + 2

-- The faults of octets that begin with no path, each with its number, which is its place in the order of judgement.
abbrev pub fault_number : PathFault → ℕ
fault_number NoOpening = 1
fault_number BadLocalPart = 2
fault_number BadDomain = 3
fault_number NoClosing = 4

-- 1: they do not begin with "<".
pub record Unopened (xs : List ℕ) : Type 0 where
  pub none : (ys : List ℕ) → xs ≢ 60 ∷ ys

-- 2: behind "<" stands no local part.
pub record NoLocal (xs : List ℕ) : Type 0 where
  pub rest : List ℕ
  pub opened : xs ≡ 60 ∷ rest
  pub none : (n : ℕ) → LocalAt rest n → ⊥

-- 3: behind the local part stands no "@" with a domain.
pub record NoDomain (xs : List ℕ) : Type 0 where
  pub rest : List ℕ
  pub opened : xs ≡ 60 ∷ rest
  pub n : ℕ
  pub local : LocalAt rest n
  pub none : (ys : List ℕ) (m : ℕ) → drop n rest ≡ 64 ∷ ys → DomainAt ys m → ⊥

-- 4: behind the domain stands no ">".
pub record Unclosed (xs : List ℕ) : Type 0 where
  pub rest : List ℕ
  pub opened : xs ≡ 60 ∷ rest
  pub n : ℕ
  pub local : LocalAt rest n
  pub after : List ℕ
  pub at_sign : drop n rest ≡ 64 ∷ after
  pub m : ℕ
  pub domain : DomainAt after m
  pub none : (ys : List ℕ) → drop m after ≢ 62 ∷ ys

abbrev pub Faulty : List ℕ → ℕ → Type 0
Faulty xs number =
    ((number ≡ 1) × Unopened xs)
    ⊎ (((number ≡ 2) × NoLocal xs)
    ⊎ (((number ≡ 3) × NoDomain xs)
    ⊎ ((number ≡ 4) × Unclosed xs)))

-- The octets begin with nothing of a kind, by the fault of this number.
pub record Fault {A : Type 0} (At : List ℕ → A → Type 0) (xs : List ℕ) (number : ℕ) : Type 0 where
  pub why : Faulty xs number
  pub none : (a : A) → At xs a → ⊥
