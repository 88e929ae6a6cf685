-- The argument of BDAT.
use Rattle.std.specs.Prelude.{◌≡◌, ℕ, Bool, true, false, List, [], ◌++◌, map, codes}
use Rattle.std.specs.Char.{to_ascii_lowercase}
use Rattle.command.specs.Numerals.{IsNumeral}
use Rattle.command.specs.declared.chunk.Chunk.{Chunk}

-- The last chunk has the word LAST behind its digits, in any case.
abbrev pub Tail : Bool → List ℕ → Type 0
Tail true tail = map to_ascii_lowercase tail ≡ map to_ascii_lowercase (codes " LAST")
Tail false tail = tail ≡ []

-- 1 to 9 digits, which write the chunk's size, alone or with " LAST".
pub record IsChunk (xs : List ℕ) (c : Chunk) : Type 0 where
  pub digits : List ℕ
  pub tail : List ℕ
  pub spelt : xs ≡ digits ++ tail
  pub size : IsNumeral 9 digits c.size
  pub last : Tail c.last tail
