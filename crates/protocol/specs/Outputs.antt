-- Octets put into a slice from a place on, where nothing else of it alters.
use Rattle.std.specs.Prelude.{ℕ, ◌+◌, Bool, cond, List, ◌++◌, length, take, drop, Some, None, Option, nat_le}

abbrev pub overlaid : List ℕ → ℕ → List ℕ → List ℕ
overlaid was at xs = take at was ++ (xs ++ drop (at + length xs) was)

-- Whether they fit.
abbrev pub fits : List ℕ → ℕ → List ℕ → Bool
fits was at xs = nat_le (at + length xs) (length was)

-- The place behind them, where they fit.
abbrev pub behind : List ℕ → ℕ → List ℕ → Option ℕ
behind was at xs = cond (fits was at xs) (Some (at + length xs)) None

-- The slice then: as it was where they do not fit.
abbrev pub put : List ℕ → ℕ → List ℕ → List ℕ
put was at xs = cond (fits was at xs) (overlaid was at xs) was
