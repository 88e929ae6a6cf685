-- One turn after another of a session, with the spool.
use Rattle.std.specs.Prelude.{◌≡◌, ℕ, List, [], ◌∷◌, ◌++◌}
use Rattle.ends.specs.Ledgers.{count}
use Rattle.protocol.specs.declared.reply.Reply.{Reply}
use Rattle.session.specs.Turns.{Outcome, Place, Setting, Turned}
use Rattle.spool.specs.Entries.{Entry}
use Rattle.spool.specs.Meanings.{Meaning}
use Rattle.receiver.specs.Settling.{Settles}

-- A finished turn: its octets, its replies, and the pairs that it filed.
pub record Turn : Type 0 where
  pub octets : List ℕ
  pub replies : List Reply
  pub filed : List Entry

abbrev pub octets_of : Turn → List ℕ
octets_of t = t.octets

abbrev pub replies_of : Turn → List Reply
replies_of t = t.replies

abbrev pub filed_by : Turn → List Entry
filed_by t = t.filed

-- Between two turns: where the session stands, the pairs filed so far by all sessions, and the spool.
pub record Point (S : Type 0) : Type 0 where
  pub place : Place
  pub filed : List Entry
  pub spool : S

abbrev pub point : {S : Type 0} → Place → List Entry → S → Point S
point p filed s = record { place = p; filed = filed; spool = s }

module _ {S : Type 0} (sp : Meaning S) (g : Setting) where
  -- The octets of the turn lead from one place to the next, and its outcome is settled with the spool.
  pub record Finishes (a : Point S) (t : Turn) (b : Point S) : Type 0 where
    pub outcome : Outcome
    pub turn : Turned g a.place t.octets outcome b.place
    pub settles : Settles sp (λ m. count m a.filed) a.spool b.spool g.kind outcome t.replies t.filed
    pub counts : b.filed ≡ a.filed ++ t.filed

  abbrev pub Chain : Point S → List Turn → Point S → Type 0
  Chain a [] b = b ≡ a
  Chain a (t ∷ ts) b = (mid : Point S) × (Finishes a t mid × Chain mid ts b)
