-- Payloads that lie in one memory, one behind the other, without gaps.
use Rattle.std.specs.Prelude.{ℕ, ◌+◌, ◌-◌, List, [], ◌∷◌, take, drop}
use Rattle.spool.specs.Entries.{Entry}
use Rattle.spool.specs.declared.entry.Summary.{Summary}
use Rattle.packed.specs.declared.row.LogRow.{LogRow}

-- How many octets the payloads of some rows have together.
abbrev pub total : List LogRow → ℕ
total [] = 0
total (r ∷ rs) = r.length + total rs

-- The entries that rows cut a memory into.
abbrev pub cut : List ℕ → List LogRow → List Entry
cut bs [] = []
cut bs (r ∷ rs) = record { mailbox = r.mailbox; payload = take r.length bs } ∷ cut (drop r.length bs) rs

-- The offsets of rows, and where their payloads start if each lies right behind the one before.
abbrev pub offsets : List LogRow → List ℕ
offsets [] = []
offsets (r ∷ rs) = r.offset ∷ offsets rs

abbrev pub starts : ℕ → List LogRow → List ℕ
starts from [] = []
starts from (r ∷ rs) = from ∷ starts (from + r.length) rs

-- A row whose payload moved down.
abbrev pub lowered : ℕ → LogRow → LogRow
lowered by r = record { offset = r.offset - by; length = r.length; mailbox = r.mailbox }

-- What a row tells of its entry.
abbrev pub told_by : LogRow → Summary
told_by r = record { mailbox = r.mailbox; length = r.length }
