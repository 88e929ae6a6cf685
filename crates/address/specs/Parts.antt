-- Local parts and domains.
use Rattle.std.specs.Prelude.{◌≡◌, ℕ, ◌≤◌, true, ◌⊎◌, List, [], ◌∷◌, ◌++◌, length, take}
use Rattle.std.specs.List.{prefix_len, flat_map, AllByRecursion}
use Rattle.address.specs.Classes.{atext, qtext, printable}
use Rattle.address.specs.Words.{Dotted, label_octet, or_dot}
use Rattle.address.specs.declared.words.Word.TheVariants.{Atom, Label}

-- What stands between quote marks (34): octets as they are, and printable octets behind a backslash (92).
pub data Quotable : Type 0 where
  bare : ℕ → Quotable
  escaped : ℕ → Quotable

abbrev pub spelling : Quotable → List ℕ
spelling (bare x) = x ∷ []
spelling (escaped x) = 92 ∷ x ∷ []

abbrev pub Allowed : Quotable → Type 0
Allowed (bare x) = qtext x ≡ true
Allowed (escaped x) = printable x ≡ true

-- A quoted local part, with its quote marks. Nothing need stand between them.
pub record Quoted (xs : List ℕ) : Type 0 where
  pub inner : List Quotable
  pub allowed : AllByRecursion Allowed inner
  pub spelt : xs ≡ 34 ∷ (flat_map spelling inner ++ 34 ∷ [])

-- A local part: quoted, or atoms with a dot between each and the next; at most 64 octets, quote marks counted.
pub record IsLocal (xs : List ℕ) : Type 0 where
  pub form : Quoted xs ⊎ Dotted Atom xs
  pub few : length xs ≤ 64

-- A domain: labels with a dot between each and the next; at most 255 octets.
pub record IsDomain (xs : List ℕ) : Type 0 where
  pub labels : Dotted Label xs
  pub few : length xs ≤ 255

-- The quoted local part that octets begin with has n octets.
pub record QuotedAt (xs : List ℕ) (n : ℕ) : Type 0 where
  pub within : n ≤ length xs
  pub form : Quoted (take n xs)

-- The local part that octets begin with has n octets, be it too long or not: it goes up to the closing quote mark,
-- or it is the longest run of octets that atoms take and dots.
abbrev pub LocalForm : List ℕ → ℕ → Type 0
LocalForm xs n = QuotedAt xs n ⊎ ((n ≡ prefix_len (or_dot atext) xs) × Dotted Atom (take n xs))

pub record LocalAt (xs : List ℕ) (n : ℕ) : Type 0 where
  pub form : LocalForm xs n
  pub few : n ≤ 64

-- The domain that octets begin with has n octets: it is the longest run of octets that labels take and dots.
pub record DomainAt (xs : List ℕ) (n : ℕ) : Type 0 where
  pub longest : n ≡ prefix_len (or_dot label_octet) xs
  pub labels : Dotted Label (take n xs)
  pub few : n ≤ 255

-- a, and nothing else.
pub record Only {A : Type 0} (P : A → Type 0) (a : A) : Type 0 where
  pub holds : P a
  pub alone : (b : A) → P b → b ≡ a
