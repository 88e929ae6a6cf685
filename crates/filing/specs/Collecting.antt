-- Collecting the entries of a mailbox, the earliest first.
use Rattle.std.specs.Prelude.{◌≡◌, ℕ, cond, List, [], ◌∷◌, ◌++◌, length, drop, Some, None, Ok, Err, Option, Result, ◌==◌, nat_le, nat_lt}
use Rattle.std.specs.List.{slice_get, remove}
use Rattle.refusals.specs.Refusals.{Notice, plain}
use Rattle.spool.specs.Entries.{Entry}

-- The earliest entry of a mailbox, and the entries without it.
abbrev pub earliest : ℕ → List Entry → Option Entry
earliest m [] = None
earliest m (e ∷ es) = cond (e.mailbox == m) (Some e) (earliest m es)

abbrev pub without : ℕ → List Entry → List Entry
without m [] = []
without m (e ∷ es) = cond (e.mailbox == m) es (e ∷ without m es)

-- A collection is refused where the mailbox is above 63 (7), nothing is held for it (8), the buffer is shorter than the
-- payload (9) or a lot is open (10), in this order. Else it answers the payload's length.
abbrev pub while_no_lot : {T X : Type 0} → Option X → T → Result T Notice
while_no_lot None n = Ok n
while_no_lot (Some es) n = Err (plain 10)

abbrev pub collects_of : {X : Type 0} → Option X → Option Entry → ℕ → Result ℕ Notice
collects_of lot None n = Err (plain 8)
collects_of lot (Some e) n = cond (nat_le (length e.payload) n) (while_no_lot lot (length e.payload)) (Err (plain 9))

abbrev pub collects : {X : Type 0} → ℕ → Option X → List Entry → ℕ → Result ℕ Notice
collects m lot held n = cond (nat_lt m 64) (collects_of lot (earliest m held) n) (Err (plain 7))

-- The payload at the front of a buffer, what lies behind it as it was.
abbrev pub in_front : Option Entry → List ℕ → List ℕ
in_front None b = b
in_front (Some e) b = e.payload ++ drop (length e.payload) b

-- Where the earliest entry of a mailbox stands among those held, and how long its payload is.
pub record EarliestAt (m : ℕ) (held : List Entry) (at size : ℕ) : Type 0 where
  pub entry : Entry
  pub first : earliest m held ≡ Some entry
  pub there : slice_get held at ≡ Some entry
  pub long : size ≡ length entry.payload
  pub rest : without m held ≡ remove held at
