-- The paths that a transaction names: where it comes from and whom it is for.
use Rattle.std.specs.Prelude.{◌≡◌, ℕ, ◌+◌, ◌-◌, List, ◌∷◌, ◌++◌}
use Rattle.std.specs.List.{between}
use Rattle.address.specs.Comparison.{IsPostmaster}
use Rattle.paths.specs.Paths.{PathAt}
use Rattle.paths.specs.declared.envelope.ReversePath.{ReversePath}
use Rattle.paths.specs.declared.envelope.ReversePath.TheVariants.{Sender, Null}
use Rattle.paths.specs.declared.envelope.ForwardPath.{ForwardPath}
use Rattle.paths.specs.declared.envelope.ForwardPath.TheVariants.{Recipient, Postmaster}

-- The octets begin with "<>".
pub record NullAt (xs : List ℕ) : Type 0 where
  pub rest : List ℕ
  pub spelt : xs ≡ 60 ∷ 62 ∷ rest

-- The octets begin with "<Postmaster>", in any case.
pub record PostmasterAt (xs : List ℕ) : Type 0 where
  pub name : List ℕ
  pub rest : List ℕ
  pub spelt : xs ≡ 60 ∷ (name ++ 62 ∷ rest)
  pub is_postmaster : IsPostmaster name

abbrev pub ReverseAt : List ℕ → ReversePath → Type 0
ReverseAt xs (Sender p) = PathAt xs p
ReverseAt xs Null = NullAt xs

abbrev pub ForwardAt : List ℕ → ForwardPath → Type 0
ForwardAt xs (Recipient p) = PathAt xs p
ForwardAt xs Postmaster = PostmasterAt xs

-- How many octets a path has.
abbrev pub reverse_end : ReversePath → ℕ
reverse_end (Sender p) = p.end
reverse_end Null = 2

abbrev pub forward_end : ForwardPath → ℕ
forward_end (Recipient p) = p.end
forward_end Postmaster = 12

-- The domain of a path: what follows "@", or the receiver's own name where there is none.
abbrev pub domain_part : List ℕ → List ℕ → ForwardPath → List ℕ
domain_part line name (Recipient p) = between (p.at + 1) (p.end - 1) line
domain_part line name Postmaster = name

-- The local part of a path.
abbrev pub local_part : List ℕ → ForwardPath → List ℕ
local_part line (Recipient p) = between 1 p.at line
local_part line Postmaster = between 1 11 line

-- Where the line does begin with the path, these are its own domain and local part.
abbrev pub IsDomainOf : List ℕ → List ℕ → ForwardPath → List ℕ → Type 0
IsDomainOf line name (Recipient p) xs = (h : PathAt line p) → xs ≡ h.domain
IsDomainOf line name Postmaster xs = xs ≡ name

abbrev pub IsLocalOf : List ℕ → ForwardPath → List ℕ → Type 0
IsLocalOf line (Recipient p) xs = (h : PathAt line p) → xs ≡ h.local
IsLocalOf line Postmaster xs = (h : PostmasterAt line) → xs ≡ h.name
