-- When domains and local parts are the same.
use Rattle.std.specs.Prelude.{◌≡◌, ℕ, Bool, ◌&&◌, ◌||◌, ◌⊎◌, List, map, codes}
use Rattle.std.specs.Char.{to_ascii_lowercase}
use Rattle.std.specs.Str.{bytes_eq}

-- Domains are the same in any case: A to Z count like a to z.
abbrev pub SameDomain : List ℕ → List ℕ → Type 0
SameDomain xs ys = map to_ascii_lowercase xs ≡ map to_ascii_lowercase ys

-- The octets spell postmaster in any case.
abbrev pub IsPostmaster : List ℕ → Type 0
IsPostmaster xs = map to_ascii_lowercase xs ≡ codes "postmaster"

-- Local parts are the same as written, quote marks counted, or where both are postmaster.
abbrev pub SameLocal : List ℕ → List ℕ → Type 0
SameLocal xs ys = (xs ≡ ys) ⊎ (IsPostmaster xs × IsPostmaster ys)

-- The same, as tests.
abbrev pub same_domain : List ℕ → List ℕ → Bool
same_domain xs ys = bytes_eq (map to_ascii_lowercase xs) (map to_ascii_lowercase ys)

abbrev pub postmaster : List ℕ → Bool
postmaster xs = bytes_eq (map to_ascii_lowercase xs) (codes "postmaster")

abbrev pub same_local : List ℕ → List ℕ → Bool
same_local xs ys = bytes_eq xs ys || (postmaster xs && postmaster ys)
