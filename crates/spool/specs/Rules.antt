-- What the calls of a spool answer and leave, by what it means: the entries held, the lot, and room.
use Rattle.std.specs.Prelude.{ℕ, cond, List, [], ◌∷◌, ◌++◌, length, drop, Some, None, Ok, Err, Option, Result, nat_le, nat_lt}
use Rattle.std.specs.List.{slice_get, remove}
use Rattle.std.specs.Option.{option_map}
use Rattle.spool.specs.Entries.{Entry}
use Rattle.spool.specs.Lists.{present}
use Rattle.refusals.specs.Refusals.{Notice, plain, no_room}
use Rattle.spool.specs.declared.entry.Part.{Part}
use Rattle.spool.specs.declared.entry.Part.TheVariants.{Held, Staged}
use Rattle.spool.specs.declared.entry.Summary.{Summary}
use Rattle.refusals.specs.declared.refusal.RoomFault.{RoomFault}

-- A lot is none, or the entries staged in it. Without a lot nothing is staged.
abbrev pub staged : {X : Type 0} → Option (List X) → List X
staged None = []
staged (Some es) = es

-- What is held and what is staged are the parts of a spool that have entries.
abbrev pub part_of : {X : Type 0} → Part → List X → Option (List X) → List X
part_of Held h l = h
part_of Staged h l = staged l

-- Opening a lot starts an empty one, refused (10) while one is open.
abbrev pub opens : {L : Type 0} → Option L → Result (Unit {0}) Notice
opens None = Ok tt
opens (Some l) = Err (plain 10)

abbrev pub opened : Option (List Entry) → Option (List Entry)
opened None = Some []
opened (Some es) = Some es

-- Room is asked for a mailbox that there is (else 7): there is room, or there is none (12), with the fault.
abbrev pub unless_fault : Option RoomFault → Result (Unit {0}) Notice
unless_fault None = Ok tt
unless_fault (Some f) = Err (no_room f)

abbrev pub asks_room : ℕ → Option RoomFault → Result (Unit {0}) Notice
asks_room m f = cond (nat_lt m 64) (unless_fault f) (Err (plain 7))

-- Staging needs a mailbox that there is (7), a lot (11) and room (12), in this order.
abbrev pub stages_into : Option (List Entry) → Option RoomFault → Result (Unit {0}) Notice
stages_into None f = Err (plain 11)
stages_into (Some es) f = unless_fault f

abbrev pub stages : ℕ → Option (List Entry) → Option RoomFault → Result (Unit {0}) Notice
stages m l f = cond (nat_lt m 64) (stages_into l f) (Err (plain 7))

-- An entry that is staged comes behind those of the lot; one that is refused leaves the lot as it was.
abbrev pub grown : Option (List Entry) → Option RoomFault → Entry → Option (List Entry)
grown None f e = None
grown (Some es) None e = Some (es ++ e ∷ [])
grown (Some es) (Some f) e = Some es

abbrev pub extended : Option (List Entry) → Option RoomFault → Entry → Option (List Entry)
extended l f e = cond (nat_lt e.mailbox 64) (grown l f e) l

-- A removal takes out the entry at a place, refused while a lot is open (10) or where there is none (13).
abbrev pub removes : Option (List Entry) → List Entry → ℕ → Result (Unit {0}) Notice
removes None h at = cond (nat_lt at (length h)) (Ok tt) (Err (plain 13))
removes (Some es) h at = Err (plain 10)

abbrev pub remains : Option (List Entry) → List Entry → ℕ → List Entry
remains None h at = cond (nat_lt at (length h)) (remove h at) h
remains (Some es) h at = h

-- What is told of the entry at a place: its mailbox and its length, or that there is none (13).
abbrev pub summary : Entry → Summary
summary e = record { mailbox = e.mailbox; length = length e.payload }

abbrev pub tells : List Entry → ℕ → Result Summary Notice
tells es at = present (option_map summary (slice_get es at))

-- A copy of the payload at a place goes to a buffer's front and answers its length: refused where there is no entry (13) or
-- the buffer is shorter than the payload (9). What lies behind the copy stays, and a refused copy alters nothing.
abbrev pub copies_of : Option Entry → ℕ → Result ℕ Notice
copies_of None n = Err (plain 13)
copies_of (Some e) n = cond (nat_le (length e.payload) n) (Ok (length e.payload)) (Err (plain 9))

abbrev pub copied_of : Option Entry → List ℕ → List ℕ
copied_of None b = b
copied_of (Some e) b = cond (nat_le (length e.payload) (length b)) (e.payload ++ drop (length e.payload) b) b

abbrev pub copies : List Entry → ℕ → ℕ → Result ℕ Notice
copies es at n = copies_of (slice_get es at) n

abbrev pub copied : List Entry → ℕ → List ℕ → List ℕ
copied es at b = copied_of (slice_get es at) b
