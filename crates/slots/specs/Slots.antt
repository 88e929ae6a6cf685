-- Slots, by number from 0: which are taken by rows, which are free, and how much of a slot a row takes up.
use Rattle.std.specs.Prelude.{ℕ, cond, ltb, List, count_by, nat_eq, nat_lt}
use Rattle.spool.specs.declared.entry.Summary.{Summary}
use Rattle.slots.specs.declared.row.SlotRow.{SlotRow}

-- How many of the rows have a slot.
abbrev pub takes : ℕ → List SlotRow → ℕ
takes slot rs = count_by (λ r. nat_eq r.slot slot) rs

-- How often a slot stands among the free ones.
abbrev pub spares : ℕ → List ℕ → ℕ
spares slot ns = count_by (λ n. nat_eq n slot) ns

-- A slot that there is among so many stands once in all, any other number never.
abbrev pub once : ℕ → ℕ → ℕ
once slot count = cond (nat_lt slot count) 1 0

-- How many of the rows are longer than a slot.
abbrev pub overlong : ℕ → List SlotRow → ℕ
overlong size rs = count_by (λ r. ltb size r.length) rs

-- What a row tells of its entry.
abbrev pub told_by : SlotRow → Summary
told_by r = record { mailbox = r.mailbox; length = r.length }
