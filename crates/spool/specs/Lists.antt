-- An ordered list keeps its records at the front of a memory that may be longer. What lies past its end is open, but where one
-- record is appended.
use Rattle.std.specs.Prelude.{ℕ, ◌+◌, cond, List, ◌++◌, length, take, drop, Some, None, Ok, Err, Option, Result, nat_le, slice_set}
use Rattle.refusals.specs.Refusals.{Notice, plain}
use Rattle.spool.specs.declared.list.OrderedList.{OrderedList}

-- The records of a list that is kept in a memory.
abbrev pub records : {X : Type 0} → OrderedList → List X → List X
records l xs = take l.count xs

-- What a question for something that may be absent answers.
abbrev pub present : {X : Type 0} → Option X → Result X Notice
present None = Err (plain 13)
present (Some x) = Ok x

-- Appending records to a list whose memory has some space: it is refused where they do not fit.
abbrev pub appends : {X : Type 0} → ℕ → List X → List X → Result (Unit {0}) Notice
appends space rs xs = cond (nat_le (length rs + length xs) space) (Ok tt) (Err (plain 13))

abbrev pub appended : {X : Type 0} → ℕ → List X → List X → List X
appended space rs xs = cond (nat_le (length rs + length xs) space) (rs ++ xs) rs

-- The memory after one record is appended: only the place behind the list alters.
abbrev pub placed : {X : Type 0} → List X → List X → X → List X
placed memory rs x = cond (nat_le (length rs + 1) (length memory)) (slice_set memory (length rs) x) memory

-- Taking out a run of records from a place on: it is refused where the list has not so many there. The others stay in order.
abbrev pub removes : {X : Type 0} → List X → ℕ → ℕ → Result (Unit {0}) Notice
removes rs at by = cond (nat_le (at + by) (length rs)) (Ok tt) (Err (plain 13))

abbrev pub remaining : {X : Type 0} → List X → ℕ → ℕ → List X
remaining rs at by = cond (nat_le (at + by) (length rs)) (take at rs ++ drop (at + by) rs) rs
