-- What a mailbox has among some entries.
use Rattle.std.specs.Prelude.{ℕ, cond, List, ◌++◌, length, sum_by, count_by, Option, ◌==◌, nat_eq}
use Rattle.spool.specs.Entries.{Entry}
use Rattle.spool.specs.Rules.{staged}

-- What an entry counts for a mailbox: its weight, or nothing where it is for another.
abbrev pub share : (Entry → ℕ) → ℕ → Entry → ℕ
share w m e = cond (e.mailbox == m) (w e) 0

-- How many entries a mailbox has.
abbrev pub entries_of : ℕ → List Entry → ℕ
entries_of m es = count_by (λ e. nat_eq e.mailbox m) es

-- How many octets a mailbox has, in all of its payloads.
abbrev pub octets_of : ℕ → List Entry → ℕ
octets_of m es = sum_by (share (λ e. length e.payload) m) es

-- What is held and what is staged count together.
abbrev pub both : List Entry → Option (List Entry) → List Entry
both h l = h ++ staged l
