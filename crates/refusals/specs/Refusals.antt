-- Every refusal has a number, which is its place in the order of judgement, and the values that it carries.
use Rattle.std.specs.Prelude.{ℕ, List, [], ◌∷◌, Ok, Err, Result}
use Rattle.refusals.specs.Causes.{cause_number}
use Rattle.refusals.specs.declared.refusal.Cause.{Cause}
use Rattle.refusals.specs.declared.refusal.RoomFault.{RoomFault}
use Rattle.refusals.specs.declared.refusal.Refusal.{Refusal}
use Rattle.refusals.specs.declared.refusal.Refusal.TheVariants.{NoSuchSession, AlreadyOpen, NotOpen, BadArea, BadSheet, ShortOutput, NoSuchMailbox, NothingHeld, ShortBuffer, LotOpen, NoLot, NoRoom, NoSuchEntry, Unlawful, BadRow, BadRowMailbox}

pub record Notice : Type 0 where
  pub number : ℕ
  pub values : List ℕ

-- A refusal that carries nothing.
abbrev pub plain : ℕ → Notice
plain n = record { number = n; values = [] }

-- A fault of the spool itself, which was called: no layer lies above it.
abbrev pub fault : Cause → RoomFault
fault cause = record { layer = 0; cause = cause }

-- No room is number 12, and carries the fault's layer and its cause's number.
abbrev pub no_room : RoomFault → Notice
no_room f = record { number = 12; values = f.layer ∷ cause_number f.cause ∷ [] }

abbrev pub notice : Refusal → Notice
notice NoSuchSession = plain 1
notice AlreadyOpen = plain 2
notice NotOpen = plain 3
notice BadArea = plain 4
notice BadSheet = plain 5
notice ShortOutput = plain 6
notice NoSuchMailbox = plain 7
notice NothingHeld = plain 8
notice ShortBuffer = plain 9
notice LotOpen = plain 10
notice NoLot = plain 11
notice (NoRoom f) = no_room f
notice NoSuchEntry = plain 13
notice Unlawful = plain 14
notice BadRow = plain 15
notice BadRowMailbox = plain 16

-- What a call tells: its value, or the number and the values of its refusal.
abbrev pub told : {T : Type 0} → Result T Refusal → Result T Notice
told (Ok x) = Ok x
told (Err e) = Err (notice e)
