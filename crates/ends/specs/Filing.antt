-- How the entries of a message are filed and answered, as relations over the states of a spool. `counts` has the filed
-- count of each mailbox as it was before the message ended.
use Rattle.std.specs.Prelude.{◌≡◌, ℕ, ◌%◌, ◌<◌, ◌≤◌, cond, List, [], ◌∷◌, ◌++◌, length, Some, ◌==◌}
use Rattle.refusals.specs.declared.refusal.RoomFault.{RoomFault}
use Rattle.spool.specs.Entries.{Entry}
use Rattle.spool.specs.Meanings.{Meaning}
use Rattle.filing.specs.Lots.{Opened, Staged, Committed, Withdrawn, Filed, Turned}
use Rattle.protocol.specs.Replies.{code_of}
use Rattle.protocol.specs.declared.reply.Reply.{Reply}
use Rattle.protocol.specs.declared.reply.Reply.TheVariants.{Done, NoRoom, LedgerFull}
use Rattle.ends.specs.declared.faults.EndFault.{EndFault}
use Rattle.ends.specs.declared.faults.EndFault.TheVariants.{Room, Ledger}
use Rattle.ends.specs.Ledgers.{most}

-- What a recipient is sent: its record stands for the mailbox that it is modulo 64.
abbrev pub entry : List ℕ → ℕ → Entry
entry p r = record { mailbox = r % 64; payload = p }

-- The entries that were answered 250, in order.
abbrev pub kept : Entry → Reply → List Entry
kept e b = cond (code_of b == 250) (e ∷ []) []

abbrev pub accepted : List Entry → List Reply → List Entry
accepted [] bs = []
accepted (e ∷ es) [] = []
accepted (e ∷ es) (b ∷ bs) = kept e b ++ accepted es bs

module _ {S : Type 0} (sp : Meaning S) (counts : ℕ → ℕ) where
  -- An entry by itself: a mailbox that has been filed too many is answered by the ledger, and nothing alters. Any other is
  -- tried in a lot of its own: it is filed, or answered with the spool's fault.
  pub data Answered (s : S) (e : Entry) (b : Reply) (s' : S) : Type 0 where
    answered-filed : b ≡ Done → counts e.mailbox ≤ most → Filed sp s s' e → Answered s e b s'
    answered_turned : (f : RoomFault) → b ≡ NoRoom f → counts e.mailbox ≤ most → Turned sp s s' e f → Answered s e b s'
    answered-ledger : b ≡ LedgerFull → most < counts e.mailbox → s' ≡ s → Answered s e b s'

  -- Each entry in turn has its answer.
  abbrev pub FiledEach : S → List Entry → List Reply → S → Type 0
  FiledEach s [] [] s' = s' ≡ s
  FiledEach s [] (b ∷ bs) s' = ⊥
  FiledEach s (e ∷ es) [] s' = ⊥
  FiledEach s (e ∷ es) (b ∷ bs) s' = (mid : S) × (Answered s e b mid × FiledEach mid es bs s')

  -- Entries are staged in turn, each with room for it, and for a mailbox that may be filed more.
  abbrev pub StagedAll : S → List Entry → S → Type 0
  StagedAll s [] s' = s' ≡ s
  StagedAll s (e ∷ es) s' = (counts e.mailbox ≤ most) × ((mid : S) × (Staged sp s mid e × StagedAll mid es s'))

  -- Why an entry is not staged: its mailbox has been filed too many, or else there is no room for it.
  abbrev pub Why : S → Entry → EndFault → Type 0
  Why s e (Room f) = (counts e.mailbox ≤ most) × (sp.room s e.mailbox (length e.payload) ≡ Some f)
  Why s e Ledger = most < counts e.mailbox

  -- The entries before one are staged, and that one is not.
  pub record FirstFault (s s' : S) (es : List Entry) (f : EndFault) : Type 0 where
    pub front : List Entry
    pub next : Entry
    pub rest : List Entry
    pub cut : es ≡ front ++ next ∷ rest
    pub before : StagedAll s front s'
    pub why : Why s' next f

  -- One lot for all entries, which is committed.
  pub record Together (s s' : S) (es : List Entry) : Type 0 where
    pub open_at : S
    pub full_at : S
    pub opens : Opened sp s open_at
    pub stages : StagedAll open_at es full_at
    pub commits : Committed sp full_at s'

  -- One lot for all entries, which is withdrawn at the first fault.
  pub record Spoilt (s s' : S) (es : List Entry) (f : EndFault) : Type 0 where
    pub open_at : S
    pub full_at : S
    pub opens : Opened sp s open_at
    pub stages : FirstFault open_at full_at es f
    pub withdraws : Withdrawn sp full_at s'
