-- How a finished turn is answered: its replies, the pairs that were filed, and the spool from before to after. `counts` has how
-- many pairs were filed for each mailbox before the turn.
use Rattle.std.specs.Prelude.{◌≡◌, ℕ, List, [], ◌∷◌, map, Some, None}
use Rattle.ends.specs.Faults.{reply_of}
use Rattle.ends.specs.Filing.{FiledEach, Spoilt, Together, accepted, entry}
use Rattle.ends.specs.declared.faults.EndFault.{EndFault}
use Rattle.judgement.specs.declared.phase.Kind.{Kind}
use Rattle.judgement.specs.declared.phase.Kind.TheVariants.{Smtp, Lmtp}
use Rattle.protocol.specs.declared.reply.Reply.{Reply}
use Rattle.protocol.specs.declared.reply.Reply.TheVariants.{Done, TooLarge}
use Rattle.session.specs.Turns.{Outcome, answered, ends}
use Rattle.spool.specs.Entries.{Entry}
use Rattle.spool.specs.Meanings.{Meaning}

-- A message that is too large is answered once in SMTP, and once for each recipient in LMTP.
abbrev pub too_large : Kind → List ℕ → List Reply
too_large Smtp rs = TooLarge ∷ []
too_large Lmtp rs = map (λ _. TooLarge) rs

module _ {S : Type 0} (sp : Meaning S) (counts : ℕ → ℕ) (s s' : S) where
  -- In SMTP all pairs of a message are filed in one lot, or none by the first fault, which is the answer.
  pub data FilesAll (es : List Entry) : List Reply → List Entry → Type 0 where
    all_filed : Together sp counts s s' es → FilesAll es (Done ∷ []) es
    none-filed : (f : EndFault) → Spoilt sp counts s s' es f → FilesAll es (reply_of f ∷ []) []

  -- In LMTP each pair is filed by itself, and has a reply; those that were answered 250 are filed.
  pub record FilesEach (es : List Entry) (replies : List Reply) (filed : List Entry) : Type 0 where
    pub each : FiledEach sp counts s es replies s'
    pub those : filed ≡ accepted es replies

  abbrev pub Files : Kind → List Entry → List Reply → List Entry → Type 0
  Files Smtp es replies filed = FilesAll es replies filed
  Files Lmtp es replies filed = FilesEach es replies filed

  -- Nothing is filed, and nothing alters.
  pub record Replies (rs replies : List Reply) (filed : List Entry) : Type 0 where
    pub says : replies ≡ rs
    pub none : filed ≡ []
    pub same : s' ≡ s

  abbrev pub Settles : Kind → Outcome → List Reply → List Entry → Type 0
  Settles kind (answered r) replies filed = Replies (r ∷ []) replies filed
  Settles kind (ends rs None) replies filed = Replies (too_large kind rs) replies filed
  Settles kind (ends rs (Some payload)) replies filed = Files kind (map (entry payload) rs) replies filed
