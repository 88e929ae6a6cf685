-- What the end of a message comes to: the replies that wait, the spool and the ledger.
use Rattle.std.specs.Prelude.{◌≡◌, ℕ, List, ◌++◌, map, None}
use Rattle.ends.specs.Filing.{entry}
use Rattle.ends.specs.Ledgers.{Counted, counts_of}
use Rattle.ends.specs.declared.ledger.Ledger.{Ledger}
use Rattle.judgement.specs.declared.phase.Kind.{Kind}
use Rattle.session.specs.Queues.{waits}
use Rattle.session.specs.Turns.{Outcome}
use Rattle.session.specs.declared.waiting.Waiting.{Waiting}
use Rattle.spool.specs.Entries.{Entry}
use Rattle.spool.specs.Meanings.{Meaning}
use Rattle.receiver.specs.Settling.{Files, Settles}

module _ {S : Type 0} (sp : Meaning S) where
  -- A turn's outcome is settled.
  pub record Settled (kind : Kind) (l l' : Ledger) (s s' : S) (o : Outcome) (w : Waiting) : Type 0 where
    pub filed : List Entry
    pub settles : Settles sp (counts_of l) s s' kind o (waits w) filed
    pub holds : sp.held s' ≡ sp.held s ++ filed
    pub idle : sp.lot s' ≡ None
    pub counts : Counted l l' filed

  pub record Ended (kind : Kind) (l l' : Ledger) (s s' : S) (rs payload : List ℕ) (w : Waiting) : Type 0 where
    pub filed : List Entry
    pub files : Files sp (counts_of l) s s' kind (map (entry payload) rs) (waits w) filed
    pub holds : sp.held s' ≡ sp.held s ++ filed
    pub idle : sp.lot s' ≡ None
    pub counts : Counted l l' filed
