-- What befalls a spool while entries are filed: a lot is opened, entries are staged in it, and it is committed or withdrawn.
use Rattle.std.specs.Prelude.{◌≡◌, ◌<◌, true, [], ◌∷◌, ◌++◌, length, is_some, Some, None, Ok, Err, Result}
use Rattle.refusals.specs.Refusals.{Notice, plain, no_room, notice}
use Rattle.refusals.specs.declared.refusal.Refusal.{Refusal}
use Rattle.refusals.specs.declared.refusal.RoomFault.{RoomFault}
use Rattle.spool.specs.Entries.{Entry}
use Rattle.spool.specs.Meanings.{Meaning}
use Rattle.spool.specs.Rules.{staged}

module _ {S : Type 0} (sp : Meaning S) where
  -- A lot is opened, with nothing in it.
  pub record Opened (s s' : S) : Type 0 where
    pub idle : sp.lot s ≡ None
    pub begun : sp.lot s' ≡ Some []
    pub keeps : sp.held s' ≡ sp.held s

  -- There is room for an entry, and it is staged behind the others.
  pub record Staged (s s' : S) (e : Entry) : Type 0 where
    pub fits : sp.room s e.mailbox (length e.payload) ≡ None
    pub grows : sp.lot s' ≡ Some (staged (sp.lot s) ++ e ∷ [])
    pub keeps : sp.held s' ≡ sp.held s

  -- The lot ends, and what was staged is held.
  pub record Committed (s s' : S) : Type 0 where
    pub ended : sp.lot s' ≡ None
    pub files : sp.held s' ≡ sp.held s ++ staged (sp.lot s)

  -- The lot ends, and what was staged is gone.
  pub record Withdrawn (s s' : S) : Type 0 where
    pub ended : sp.lot s' ≡ None
    pub keeps : sp.held s' ≡ sp.held s

  -- An entry is filed in a lot of its own.
  pub record Filed (s s' : S) (e : Entry) : Type 0 where
    pub open_at : S
    pub full_at : S
    pub opens : Opened s open_at
    pub stages : Staged open_at full_at e
    pub commits : Committed full_at s'

  -- An entry finds no room in a lot of its own, which is withdrawn.
  pub record Turned (s s' : S) (e : Entry) (f : RoomFault) : Type 0 where
    pub open_at : S
    pub opens : Opened s open_at
    pub lacks : sp.room open_at e.mailbox (length e.payload) ≡ Some f
    pub withdraws : Withdrawn open_at s'

  -- Why an entry is not filed: there is no such mailbox (7), a lot is open (10), or there is no room for it (12). The first
  -- two leave the spool as it was.
  pub data Declined (s s' : S) (e : Entry) : Notice → Type 0 where
    nowhere : 63 < e.mailbox → s' ≡ s → Declined s s' e (plain 7)
    busy : e.mailbox < 64 → is_some (sp.lot s) ≡ true → s' ≡ s → Declined s s' e (plain 10)
    full : e.mailbox < 64 → (f : RoomFault) → Turned s s' e f → Declined s s' e (no_room f)

  -- One entry is filed in a lot of its own, or declined.
  abbrev pub Files : S → S → Entry → Result (Unit {0}) Refusal → Type 0
  Files s s' e (Ok u) = (e.mailbox < 64) × Filed s s' e
  Files s s' e (Err x) = Declined s s' e (notice x)
