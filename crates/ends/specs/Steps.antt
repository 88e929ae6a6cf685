-- The steps of an end, one recipient at a time, as the inner functions answer them.
use Rattle.std.specs.Prelude.{◌≡◌, ℕ, ◌%◌, ◌<◌, ◌≤◌, List, length, Some, Ok, Err, Result, slice_index}
use Rattle.refusals.specs.declared.refusal.RoomFault.{RoomFault}
use Rattle.spool.specs.Entries.{Entry}
use Rattle.spool.specs.Meanings.{Meaning}
use Rattle.filing.specs.Lots.{Staged, Filed, Turned}
use Rattle.ends.specs.declared.faults.EndFault.{EndFault}
use Rattle.ends.specs.declared.faults.EndFault.TheVariants.{Room, Ledger}
use Rattle.ends.specs.Filing.{StagedAll, FirstFault}
use Rattle.ends.specs.Ledgers.{most}

-- The mailboxes of these recipients may be filed more.
pub record Admits (counts : ℕ → ℕ) (rs : List ℕ) : Type 0 where
  pub each : (k : ℕ) → k < length rs → counts (slice_index rs k % 64) ≤ most

module _ {S : Type 0} (sp : Meaning S) where
  -- One try to stage an entry: it is staged, or there is no room for it and nothing alters.
  abbrev pub Tried : S → S → Entry → Result (Unit {0}) RoomFault → Type 0
  Tried s s' e (Ok u) = Staged sp s s' e
  Tried s s' e (Err f) = (sp.room s e.mailbox (length e.payload) ≡ Some f) × (s' ≡ s)

  -- One try to file an entry in a lot of its own.
  abbrev pub OneLot : S → S → Entry → Result (Unit {0}) RoomFault → Type 0
  OneLot s s' e (Ok u) = Filed sp s s' e
  OneLot s s' e (Err f) = Turned sp s s' e f

module _ {S : Type 0} (sp : Meaning S) (counts : ℕ → ℕ) where
  -- The same, unless its mailbox has been filed too many.
  abbrev pub Alone : S → S → Entry → Result (Unit {0}) EndFault → Type 0
  Alone s s' e (Ok u) = (counts e.mailbox ≤ most) × Filed sp s s' e
  Alone s s' e (Err (Room f)) = (counts e.mailbox ≤ most) × Turned sp s s' e f
  Alone s s' e (Err Ledger) = (most < counts e.mailbox) × (s' ≡ s)

  -- Entries are staged in turn, all or up to the first fault.
  abbrev pub Staging : S → S → List Entry → Result (Unit {0}) EndFault → Type 0
  Staging s s' es (Ok u) = StagedAll sp counts s es s'
  Staging s s' es (Err f) = FirstFault sp counts s s' es f
