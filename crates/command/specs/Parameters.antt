-- Parameters behind a path.
use Rattle.std.specs.Prelude.{◌≡◌, ℕ, ◌⊎◌, List, [], ◌∷◌, ◌++◌, drop, Some, None, codes, Option, ◌≢◌}
use Rattle.std.specs.List.{flat_map, AllByRecursion}
use Rattle.address.specs.Words.{AllIn}
use Rattle.command.specs.Faults.{Verdict, bad_argument, unknown_parameter}
use Rattle.command.specs.Lines.{Begins, not_space}
use Rattle.command.specs.Numerals.{IsNumeral, kept}

-- Octets are parameters, each behind one space.
abbrev pub spaced : List ℕ → List ℕ
spaced p = 32 ∷ p

abbrev pub Spaceless : List ℕ → Type 0
Spaceless p = AllIn not_space p

pub record Parameters (xs : List ℕ) (ps : List (List ℕ)) : Type 0 where
  pub spelt : xs ≡ flat_map spaced ps
  pub apart : AllByRecursion Spaceless ps

-- What a command knows of parameters: which are its own, by their keyword, and how these are formed.
pub record Knows : Type 1 where
  pub Own : List ℕ → Type 0
  pub Formed : List ℕ → Type 0

-- A parameter is right where the command knows it, it is well formed and no other of the command's own stands before it.
pub record Right (k : Knows) (before : List (List ℕ)) (p : List ℕ) : Type 0 where
  pub own : k.Own p
  pub formed : k.Formed p
  pub once : AllByRecursion (λ q. k.Own q → ⊥) before

-- A wrong parameter that is empty or the command's own is a bad argument; any other is unknown.
abbrev pub Wrong : Knows → List (List ℕ) → List ℕ → Verdict → Type 0
Wrong k before p v =
    ((v ≡ bad_argument) × ((p ≡ []) ⊎ (k.Own p × (Right k before p → ⊥))))
    ⊎ ((v ≡ unknown_parameter) × (p ≢ []) × (k.Own p → ⊥))

-- Every parameter is right behind those before it.
pub record AllRight (k : Knows) (ps : List (List ℕ)) : Type 0 where
  pub each : (before : List (List ℕ)) (p : List ℕ) (after : List (List ℕ)) → ps ≡ before ++ p ∷ after → Right k before p

-- The left-most parameter that is not right decides.
pub record FirstWrong (k : Knows) (ps : List (List ℕ)) (v : Verdict) : Type 0 where
  pub before : List (List ℕ)
  pub wrong : List ℕ
  pub after : List (List ℕ)
  pub spelt : ps ≡ before ++ wrong ∷ after
  pub right : AllRight k before
  pub judged : Wrong k before wrong v

-- What stands behind a path, where it is no right parameters: it is not parted from the path by a space,
-- or it has a wrong parameter.
pub record Unparted (xs : List ℕ) : Type 0 where
  pub first : ℕ
  pub rest : List ℕ
  pub spelt : xs ≡ first ∷ rest
  pub no_space : first ≡ 32 → ⊥

pub record WrongIn (k : Knows) (xs : List ℕ) (v : Verdict) : Type 0 where
  pub params : List (List ℕ)
  pub spelt : Parameters xs params
  pub wrong : FirstWrong k params v

abbrev pub Behind : Knows → List ℕ → Verdict → Type 0
Behind k xs v = ((v ≡ bad_argument) × Unparted xs) ⊎ WrongIn k xs v

-- MAIL knows SIZE=, in any case, with 1 to 20 digits.
abbrev pub IsSize : List ℕ → ℕ → Type 0
IsSize p n = Begins (codes "SIZE=") p × IsNumeral 20 (drop 5 p) n

abbrev pub size_only : Knows
size_only = record { Own = Begins (codes "SIZE="); Formed = λ p. (n : ℕ) × IsSize p n }

-- RCPT knows none.
abbrev pub knows_none : Knows
knows_none = record { Own = λ _. ⊥; Formed = λ _. ⊥ }

-- The size that parameters declare, as it is kept; none where no parameter is SIZE=.
pub record SizeIn (ps : List (List ℕ)) (size : ℕ) : Type 0 where
  pub before : List (List ℕ)
  pub param : List ℕ
  pub after : List (List ℕ)
  pub spelt : ps ≡ before ++ param ∷ after
  pub number : ℕ
  pub is_size : IsSize param number
  pub keeps : size ≡ kept number

abbrev pub Declares : List (List ℕ) → Option ℕ → Type 0
Declares ps None = AllByRecursion (λ p. Begins (codes "SIZE=") p → ⊥) ps
Declares ps (Some size) = SizeIn ps size

-- Right parameters of MAIL, with the size that they declare.
pub record Sized (xs : List ℕ) (declared : Option ℕ) : Type 0 where
  pub params : List (List ℕ)
  pub spelt : Parameters xs params
  pub right : AllRight size_only params
  pub size : Declares params declared
