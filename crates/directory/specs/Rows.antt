-- Directories that are a text with rows: each row stands for octets of the text and for a mailbox.
use Rattle.std.specs.Prelude.{◌≡◌, ℕ, ◌+◌, ◌-◌, ◌<◌, ◌≤◌, Bool, cond, not, ◌&&◌, ◌⊎◌, List, [], ◌∷◌, ◌++◌, length, take, drop, Some, None, Option, ◌==◌}
use Rattle.std.specs.List.{suffix_len, AllByRecursion}
use Rattle.refusals.specs.Refusals.{Notice, plain}
use Rattle.address.specs.Comparison.{same_domain, same_local}
use Rattle.address.specs.Parts.{IsLocal, IsDomain}
use Rattle.directory.specs.declared.row.DirectoryRow.{DirectoryRow}

-- The octets that a row stands for.
abbrev pub octets_of : List ℕ → DirectoryRow → List ℕ
octets_of text row = take row.length (drop row.offset text)

-- What stands before the last "@" of an address, and behind it: no domain has an "@" in it.
abbrev pub not_at : ℕ → Bool
not_at x = not (x == 64)

abbrev pub domain_start : List ℕ → ℕ
domain_start xs = length xs - suffix_len not_at xs

abbrev pub before_at : List ℕ → List ℕ
before_at xs = take (domain_start xs - 1) xs

abbrev pub behind_at : List ℕ → List ℕ
behind_at xs = drop (domain_start xs) xs

-- A local part, "@" and a domain.
pub record IsAddress (xs : List ℕ) : Type 0 where
  pub local : IsLocal (before_at xs)
  pub domain : IsDomain (behind_at xs)
  pub spelt : xs ≡ before_at xs ++ 64 ∷ behind_at xs

-- A row lies in the text and is spelt as its list has it.
pub record GoodRow (Spells : List ℕ → Type 0) (text : List ℕ) (row : DirectoryRow) : Type 0 where
  pub within : row.offset + row.length ≤ length text
  pub spelt : Spells (octets_of text row)

-- At most 4,096 octets and 64 rows.
pub record Limits (text : List ℕ) (rows : List DirectoryRow) : Type 0 where
  pub octets : length text ≤ 4096
  pub few : length rows ≤ 64

abbrev pub GoodRows : (List ℕ → Type 0) → List ℕ → List DirectoryRow → Type 0
GoodRows Spells text rows = AllByRecursion (GoodRow Spells text) rows

abbrev pub GoodMailboxes : List DirectoryRow → Type 0
GoodMailboxes rows = AllByRecursion (λ row. row.mailbox < 64) rows

pub record Lawful (Spells : List ℕ → Type 0) (text : List ℕ) (rows : List DirectoryRow) : Type 0 where
  pub limits : Limits text rows
  pub spelt : GoodRows Spells text rows
  pub mailboxes : GoodMailboxes rows

-- Why a build is refused: the limits (14), then any row's place or spelling (15), then any row's mailbox (16).
abbrev pub Refused : (List ℕ → Type 0) → List ℕ → List DirectoryRow → Notice → Type 0
Refused Spells text rows notice =
    ((notice ≡ plain 14) × (Limits text rows → ⊥))
    ⊎ (((notice ≡ plain 15) × Limits text rows × (GoodRows Spells text rows → ⊥))
    ⊎ ((notice ≡ plain 16) × Limits text rows × GoodRows Spells text rows × (GoodMailboxes rows → ⊥)))

-- Whether a local part and a domain are those of a row: of an address both, of a domain any local part.
abbrev pub fits_address : List ℕ → List ℕ → List ℕ → Bool
fits_address row local domain = same_local (before_at row) local && same_domain (behind_at row) domain

abbrev pub fits_domain : List ℕ → List ℕ → List ℕ → Bool
fits_domain row local domain = same_domain row domain

-- The mailbox of the first row that fits.
abbrev pub first_fit : (List ℕ → List ℕ → List ℕ → Bool) → List ℕ → List DirectoryRow → List ℕ → List ℕ → Option ℕ
first_fit fits text [] local domain = None
first_fit fits text (row ∷ rows) local domain =
    cond (fits (octets_of text row) local domain) (Some row.mailbox) (first_fit fits text rows local domain)
