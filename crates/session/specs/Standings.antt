-- Where a conversation stands between two turns, and what a command line does there.
use Rattle.std.specs.Prelude.{ℕ, Bool, true, false, cond, List, [], ◌∷◌, ◌++◌, length, Some, None, Option, nat_lt, Ok, Err}
use Rattle.command.specs.declared.argument.RcptLine.{RcptLine}
use Rattle.judgement.specs.Judgements.{Judged}
use Rattle.judgement.specs.declared.judged.Asked.TheVariants as asks
use Rattle.judgement.specs.declared.phase.Phase.{Phase}
use Rattle.judgement.specs.declared.phase.Phase.TheVariants.{Fresh, Greeted, Mail, Rcpt, Data, Chunks, Spoiled, Ended}
use Rattle.protocol.specs.declared.reply.Reply.{Reply}
use Rattle.protocol.specs.declared.reply.Reply.TheVariants as reply

-- The phase; the mailboxes of the recipients, in order of acceptance; the payload of the chunks so far.
pub record Standing : Type 0 where
  pub phase : Phase
  pub recipients : List ℕ
  pub payload : List ℕ

-- No transaction is under way.
abbrev pub idle : Phase → Standing
idle p = record { phase = p; recipients = []; payload = [] }

-- Another phase, with the transaction as it was.
abbrev pub moved : Standing → Phase → Standing
moved st p = record { phase = p; recipients = st.recipients; payload = st.payload }

-- The most recipients of a message.
abbrev pub most : ℕ
most = 100

-- The phases in which command lines are heard: in Data the octets are a message's, and in Ended none is taken.
abbrev pub commands : Phase → Bool
commands Fresh = true
commands Greeted = true
commands Mail = true
commands Rcpt = true
commands Data = false
commands Chunks = true
commands Spoiled = true
commands Ended = false

-- The phases in which a chunk joins the payload.
abbrev pub takes_chunks : Phase → Bool
takes_chunks Fresh = false
takes_chunks Greeted = false
takes_chunks Mail = false
takes_chunks Rcpt = true
takes_chunks Data = false
takes_chunks Chunks = true
takes_chunks Spoiled = false
takes_chunks Ended = false

-- The phase after RSET: before a hello it is Fresh still.
abbrev pub after_reset : Phase → Phase
after_reset Fresh = Fresh
after_reset Greeted = Greeted
after_reset Mail = Greeted
after_reset Rcpt = Greeted
after_reset Data = Greeted
after_reset Chunks = Greeted
after_reset Spoiled = Greeted
after_reset Ended = Greeted

-- The answer to a command line: its reply, and where the conversation then stands.
pub record Answer : Type 0 where
  pub reply : Reply
  pub after : Standing

abbrev pub answer : Reply → Standing → Answer
answer r st = record { reply = r; after = st }

-- A recipient for whom the directory told a mailbox, or none.
abbrev pub enrolled : Standing → Option ℕ → Answer
enrolled st None = answer reply.NoSuchMailbox st
enrolled st (Some m) = answer reply.Done (record { phase = Rcpt; recipients = st.recipients ++ m ∷ []; payload = st.payload })

abbrev pub recipient : Standing → Option ℕ → Answer
recipient st m = cond (nat_lt (length st.recipients) most) (enrolled st m) (answer reply.TooManyRecipients st)

abbrev pub refused : Standing → Reply → Bool → Answer
refused st r true = answer r (moved st Ended)
refused st r false = answer r st

-- What a line that is judged so is answered, where `asked` is the directory's answer for its recipient. A well-formed BDAT has
-- none: its chunk is answered.
abbrev pub heeded : (RcptLine → Option ℕ) → Standing → Judged → Option Answer
heeded asked st (Err r) = Some (refused st r.reply r.ends)
heeded asked st (Ok asks.Hello) = Some (answer reply.Hello (idle Greeted))
heeded asked st (Ok asks.Extended) = Some (answer reply.Extensions (idle Greeted))
heeded asked st (Ok asks.Mail) = Some (answer reply.Done (idle Mail))
heeded asked st (Ok (asks.Rcpt line)) = Some (recipient st (asked line))
heeded asked st (Ok asks.Data) = Some (answer reply.GoAhead (moved st Data))
heeded asked st (Ok (asks.Chunk c)) = None
heeded asked st (Ok asks.Reset) = Some (answer reply.Done (idle (after_reset st.phase)))
heeded asked st (Ok asks.Noop) = Some (answer reply.Done st)
heeded asked st (Ok asks.Verify) = Some (answer reply.CannotVerify st)
heeded asked st (Ok asks.Quit) = Some (answer reply.Closing (moved st Ended))
