-- One step between quote marks.
use Rattle.std.specs.Prelude.{◌≡◌, ℕ, List, ◌++◌}
use Rattle.address.specs.Parts.{Quotable, spelling, Allowed}

-- Octets begin with something that may stand between quote marks, and the rest follows it.
abbrev pub Step : List ℕ → List ℕ → Type 0
Step xs rest = (q : Quotable) × Allowed q × (xs ≡ spelling q ++ rest)
