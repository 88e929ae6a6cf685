-- What a command line is judged to be.
use Rattle.std.specs.Prelude.{◌≡◌, ℕ, ◌<◌, Bool, true, false, ◌⊎◌, List, [], Some, Ok, Err, ◌≢◌, Option, Result}
use Rattle.address.specs.Parts.{IsDomain, Only}
use Rattle.paths.specs.Paths.{fault_number}
use Rattle.command.specs.Arguments.{IsMail, IsRcpt, mail_syntax, rcpt_syntax}
use Rattle.command.specs.Arguments as argued
use Rattle.command.specs.Chunks.{IsChunk}
use Rattle.command.specs.Faults.{verdict}
use Rattle.command.specs.Lines.{Printable, argument_part, verb_of}
use Rattle.command.specs.declared.argument.MailLine.{MailLine}
use Rattle.command.specs.declared.argument.RcptLine.{RcptLine}
use Rattle.command.specs.declared.chunk.Chunk.{Chunk}
use Rattle.command.specs.declared.fault.LineFault.{LineFault}
use Rattle.command.specs.declared.fault.LineFault.TheVariants as fault
use Rattle.command.specs.declared.verb.Verb.{Verb}
use Rattle.command.specs.declared.verb.Verb.TheVariants as verb
use Rattle.protocol.specs.Lines.{trim}
use Rattle.protocol.specs.declared.reply.Reply.{Reply}
use Rattle.protocol.specs.declared.reply.Reply.TheVariants as reply
use Rattle.judgement.specs.Phases.{heard_in, knows}
use Rattle.judgement.specs.declared.judged.Asked.{Asked}
use Rattle.judgement.specs.declared.judged.Asked.TheVariants as asked
use Rattle.judgement.specs.declared.judged.Refused.{Refused}
use Rattle.judgement.specs.declared.phase.Kind.{Kind}
use Rattle.judgement.specs.declared.phase.Phase.{Phase}

-- A line that came in: in a session of a protocol, at a phase, before an area of a size; its octets before CR LF, and whether it was too long.
pub record Line : Type 0 where
  pub kind : Kind
  pub phase : Phase
  pub area : ℕ
  pub octets : List ℕ
  pub long : Bool

-- It is read without the spaces at its end.
abbrev pub text_of : Line → List ℕ
text_of l = trim l.octets

abbrev pub verb_in : Line → Option Verb
verb_in l = verb_of (text_of l)

abbrev pub argument_in : Line → List ℕ
argument_in l = argument_part (text_of l)

-- BDAT announces a chunk, and nothing else does.
abbrev pub is_chunk : Option Verb → Bool
is_chunk (Some verb.Bdat) = true
is_chunk _ = false

-- 1: it is too long, or has an octet that is not printable.
abbrev pub Unreadable : Line → Type 0
Unreadable l = (l.long ≡ true) ⊎ (Printable (text_of l) → ⊥)

-- 2: its protocol has no such verb.
abbrev pub Unknown : Line → Type 0
Unknown l = knows l.kind (verb_in l) ≡ false

-- 3: it announces a chunk, and its argument is not that of a chunk.
abbrev pub BadChunk : Verb → List ℕ → Type 0
BadChunk v xs = (v ≡ verb.Bdat) × ((c : Chunk) → IsChunk xs c → ⊥)

-- 4: its verb is not heard in this phase.
abbrev pub OutOfOrder : Phase → Verb → Type 0
OutOfOrder phase v = heard_in phase (Some v) ≡ false

-- The reply to a fault of the argument of MAIL or RCPT.
abbrev pub reply_to : LineFault → Reply
reply_to (fault.BadPath f) = reply.BadPath (fault_number f)
reply_to fault.BadArgument = reply.BadArgument
reply_to fault.UnknownParameter = reply.UnknownParameter

-- A refusal that does not end the session, and that of a bad chunk, which does.
abbrev pub refusal : Reply → Refused
refusal r = record { reply = r; ends = false }

abbrev pub bad_chunk : Refused
bad_chunk = record { reply = reply.BadArgument; ends = true }

-- A line is judged to ask for something, or is refused.
abbrev pub Judged : Type 0
Judged = Result Asked Refused

-- No line of a kind is read from the argument, by a fault that the reply tells.
pub record Faulted {A B : Type 0} (s : argued.Syntax A) (Is : List ℕ → B → Type 0) (xs : List ℕ) (r : Reply) : Type 0 where
  pub fault : LineFault
  pub why : argued.Refused s Is xs (verdict fault)
  pub tells : r ≡ reply_to fault

-- The argument of MAIL declares a size above the area's.
pub record Oversized (area : ℕ) (xs : List ℕ) : Type 0 where
  pub line : MailLine
  pub is_mail : IsMail xs line
  pub size : ℕ
  pub declared : line.size ≡ Some size
  pub above : area < size

-- The argument of MAIL is right, and declares no size above the area's.
pub record Fitting (area : ℕ) (xs : List ℕ) : Type 0 where
  pub line : MailLine
  pub is_mail : Only (IsMail xs) line
  pub within : (size : ℕ) → line.size ≡ Some size → area < size → ⊥

-- A reply where P does not hold, and what the line asks for where it does.
abbrev pub Wants : Type 0 → Asked → Judged → Type 0
Wants P wanted j = (P × (j ≡ Ok wanted)) ⊎ ((P → ⊥) × (j ≡ Err (refusal reply.BadArgument)))

pub data Sent (area : ℕ) (xs : List ℕ) (j : Judged) : Type 0 where
  bad_mail : (r : Reply) → Faulted mail_syntax IsMail xs r → j ≡ Err (refusal r) → Sent area xs j
  oversized : Oversized area xs → j ≡ Err (refusal reply.TooLarge) → Sent area xs j
  fitting : Fitting area xs → j ≡ Ok asked.Mail → Sent area xs j

pub data Received (xs : List ℕ) (j : Judged) : Type 0 where
  bad_rcpt : (r : Reply) → Faulted rcpt_syntax IsRcpt xs r → j ≡ Err (refusal r) → Received xs j
  recipient : (line : RcptLine) → Only (IsRcpt xs) line → j ≡ Ok (asked.Rcpt line) → Received xs j

-- 5: what the verb says of its argument. A hello wants one domain; DATA, RSET and QUIT want none, VRFY wants some, NOOP takes any.
abbrev pub Argued : ℕ → Verb → List ℕ → Judged → Type 0
Argued area verb.Helo xs j = Wants (IsDomain xs) asked.Hello j
Argued area verb.Ehlo xs j = Wants (IsDomain xs) asked.Extended j
Argued area verb.Lhlo xs j = Wants (IsDomain xs) asked.Extended j
Argued area verb.Mail xs j = Sent area xs j
Argued area verb.Rcpt xs j = Received xs j
Argued area verb.Data xs j = Wants (xs ≡ []) asked.Data j
Argued area verb.Bdat xs j = (c : Chunk) × Only (IsChunk xs) c × (j ≡ Ok (asked.Chunk c))
Argued area verb.Rset xs j = Wants (xs ≡ []) asked.Reset j
Argued area verb.Noop xs j = j ≡ Ok asked.Noop
Argued area verb.Vrfy xs j = Wants (xs ≢ []) asked.Verify j
Argued area verb.Quit xs j = Wants (xs ≡ []) asked.Quit j

-- Where a ground holds its answer is given, and else what the later grounds say.
abbrev pub First : Type 0 → Type 0 → Type 0 → Type 0
First Ground Answer Later = (Ground × Answer) ⊎ ((Ground → ⊥) × Later)

-- Of a readable line with a known verb: the grounds from the third on.
abbrev pub FromThird : Phase → ℕ → Verb → List ℕ → Judged → Type 0
FromThird phase area v xs j =
    First (BadChunk v xs) (j ≡ Err bad_chunk)
    (First (OutOfOrder phase v) (j ≡ Err (refusal reply.OutOfOrder)) (Argued area v xs j))

-- The first ground that holds decides. An unreadable line that announces a chunk ends the session, and so does a bad chunk,
-- since where the next line begins is then not known.
abbrev pub JudgedAs : Line → Judged → Type 0
JudgedAs l j =
    First (Unreadable l) (j ≡ Err (record { reply = reply.UnknownCommand; ends = is_chunk (verb_in l) }))
    (First (Unknown l) (j ≡ Err (refusal reply.UnknownCommand))
    ((v : Verb) × (verb_in l ≡ Some v) × FromThird l.phase l.area v (argument_in l) j))
