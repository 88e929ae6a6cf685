-- Numbers in decimal digits.
use Rattle.std.specs.Prelude.{◌≡◌, ℕ, ◌-◌, ◌^◌, ◌≤◌, min, List, length}
use Rattle.std.specs.Str.Parse.{digits_value}
use Rattle.std.specs.Char.{is_ascii_digit}
use Rattle.address.specs.Words.{AllIn}

abbrev pub decimal_value : List ℕ → ℕ
decimal_value xs = digits_value 10 xs

-- 1 to `most` digits that write n.
pub record IsNumeral (most : ℕ) (xs : List ℕ) (n : ℕ) : Type 0 where
  pub some : 1 ≤ length xs
  pub few : length xs ≤ most
  pub digits : AllIn is_ascii_digit xs
  pub writes : n ≡ decimal_value xs

-- A number as it is kept: what passes 64 bits is kept as the largest number of 64 bits.
abbrev pub kept : ℕ → ℕ
kept n = min n (2 ^ 64 - 1)
