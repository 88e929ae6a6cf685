-- Octets cut into lines: a line ends at its first CR LF, and what follows the last CR LF is an unfinished rest.
use Rattle.std.specs.Prelude.{◌≡◌, ℕ, cond, List, [], ◌∷◌, ◌++◌, reverse, replicate, ◌==◌, ◌≢◌}
use Rattle.std.specs.List.{flat_map, AllByRecursion}

-- No CR LF stands in the octets.
abbrev pub Unbroken : List ℕ → Type 0
Unbroken xs = (a b : List ℕ) → xs ≢ a ++ (13 ∷ 10 ∷ b)

-- A line: its text, and the CR LF that ends it.
abbrev pub ended : List ℕ → List ℕ
ended text = text ++ (13 ∷ 10 ∷ [])

-- The octets are lines, given by their texts, and then the rest.
pub record Lines (octets : List ℕ) (texts : List (List ℕ)) (rest : List ℕ) : Type 0 where
  pub whole : octets ≡ flat_map ended texts ++ rest
  pub each : AllByRecursion Unbroken texts
  pub unended : Unbroken rest

-- A text less the spaces at its end.
pub record Trimmed (text kept : List ℕ) : Type 0 where
  pub spaces : ℕ
  pub whole : text ≡ kept ++ replicate spaces 32
  pub bare : (front : List ℕ) → kept ≢ front ++ (32 ∷ [])

abbrev pub unspaced : List ℕ → List ℕ
unspaced [] = []
unspaced (x ∷ xs) = cond (x == 32) (unspaced xs) (x ∷ xs)

abbrev pub trim : List ℕ → List ℕ
trim text = reverse (unspaced (reverse text))

pub record LineLaws : Type 0 where
  -- all octets can be cut into lines, in one way
  pub cuts : (octets : List ℕ) → (texts : List (List ℕ)) × ((rest : List ℕ) × Lines octets texts rest)
  pub one-cut : (octets : List ℕ) (ls ms : List (List ℕ)) (rest tail : List ℕ) → Lines octets ls rest → Lines octets ms tail → (ls ≡ ms) × (rest ≡ tail)
  -- all texts can be trimmed, in one way
  pub trims : (text : List ℕ) → Trimmed text (trim text)
  pub one-trim : (text a b : List ℕ) → Trimmed text a → Trimmed text b → a ≡ b
