-- The turns of a conversation, over whole octet strings: a command line, a chunk with its line, or a message.
use Rattle.std.specs.Prelude.{◌≡◌, ℕ, ◌+◌, ◌%◌, ◌<◌, Bool, true, false, cond, List, [], ◌∷◌, ◌++◌, length, take, drop, Some, None, Option, nat_le, nat_lt, slice_set, Ok}
use Rattle.command.specs.declared.argument.RcptLine.{RcptLine}
use Rattle.command.specs.declared.chunk.Chunk.{Chunk}
use Rattle.judgement.specs.Judgements.{JudgedAs, Line, argument_in}
use Rattle.judgement.specs.Judgements.{Judged}
use Rattle.judgement.specs.declared.judged.Asked.TheVariants as asks
use Rattle.judgement.specs.declared.phase.Kind.{Kind}
use Rattle.judgement.specs.declared.phase.Phase.{Phase}
use Rattle.judgement.specs.declared.phase.Phase.TheVariants.{Data, Chunks, Spoiled, Greeted, Ended}
use Rattle.paths.specs.Envelopes.{domain_part, local_part}
use Rattle.protocol.specs.Buffers.{longest}
use Rattle.protocol.specs.Lines.{Unbroken, ended}
use Rattle.protocol.specs.Messages.{Message, Unfinished}
use Rattle.protocol.specs.declared.reply.Reply.{Reply}
use Rattle.protocol.specs.declared.reply.Reply.TheVariants as reply
use Rattle.session.specs.Standings.{Standing, Answer, commands, heeded, idle, takes_chunks}

-- What stays the same through a conversation: its protocol, the receiver's name, the area's length and the directory.
pub record Setting : Type 0 where
  pub kind : Kind
  pub name : List ℕ
  pub size : ℕ
  pub find : List ℕ → List ℕ → Option ℕ

-- A line as it is judged: of one that is too long the first octets.
abbrev pub line_in : Setting → Phase → List ℕ → Line
line_in g phase text = record {
  kind = g.kind;
  phase = phase;
  area = g.size;
  octets = take longest text;
  long = nat_lt longest (length (ended text));
}

-- The directory's answer for the recipient of an RCPT line, whose path stands behind "TO:".
abbrev pub sought : Setting → List ℕ → RcptLine → Option ℕ
sought g route line = g.find (local_part route line.path) (domain_part route g.name line.path)

abbrev pub asked_by : Setting → Phase → List ℕ → RcptLine → Option ℕ
asked_by g phase text line = sought g (drop 3 (argument_in (line_in g phase text))) line

-- What a turn comes to: a reply, or the end of a message, with its recipients and its payload, or none where it is too large.
pub data Outcome : Type 0 where
  answered : Reply → Outcome
  ends : List ℕ → Option (List ℕ) → Outcome

-- Where a conversation stands, with its memory: the area, and the sheet whose records modulo 64 are mailboxes.
pub record Place : Type 0 where
  pub standing : Standing
  pub area : List ℕ
  pub sheet : List ℕ

-- Octets at the front of an area, as far as it goes; past them it is as it was.
abbrev pub laid : List ℕ → List ℕ → List ℕ
laid area p = take (length area) p ++ drop (length p) area

-- A recipient that is accepted has the next record of the sheet, and nothing else of it alters.
pub data Enrols (st st' : Standing) (sheet : List ℕ) : List ℕ → Type 0 where
  nobody : st'.recipients ≡ st.recipients → Enrols st st' sheet sheet
  cleared : st'.recipients ≡ [] → Enrols st st' sheet sheet
  somebody : (r : ℕ) → st'.recipients ≡ st.recipients ++ (r % 64) ∷ [] → Enrols st st' sheet (slice_set sheet (length st.recipients) r)

-- A payload within the area, or none.
abbrev pub within : ℕ → List ℕ → Option (List ℕ)
within size p = cond (nat_le (length p) size) (Some p) None

-- What a chunk comes to in a phase that takes chunks. One that would pass the area is dropped whole.
abbrev pub joined_chunk : Standing → List ℕ → Bool → Outcome
joined_chunk st p true = ends st.recipients (Some p)
joined_chunk st p false = answered reply.Done

abbrev pub oversized_chunk : Standing → Bool → Outcome
oversized_chunk st true = ends st.recipients None
oversized_chunk st false = answered reply.TooLarge

abbrev pub joins : ℕ → Standing → ℕ → Bool
joins size st n = cond (takes_chunks st.phase) (nat_le (length st.payload + n) size) false

abbrev pub chunk_outcome : ℕ → Standing → List ℕ → Bool → Outcome
chunk_outcome size st body last =
    cond (takes_chunks st.phase)
    (cond (joins size st (length body)) (joined_chunk st (st.payload ++ body) last) (oversized_chunk st last))
    (answered reply.OutOfOrder)

abbrev pub joined_after : Standing → List ℕ → Bool → Standing
joined_after st p true = idle Greeted
joined_after st p false = record { phase = Chunks; recipients = st.recipients; payload = p }

abbrev pub oversized_after : Bool → Standing
oversized_after true = idle Greeted
oversized_after false = idle Spoiled

abbrev pub chunk_after : ℕ → Standing → List ℕ → Bool → Standing
chunk_after size st body last =
    cond (takes_chunks st.phase)
    (cond (joins size st (length body)) (joined_after st (st.payload ++ body) last) (oversized_after last))
    st

abbrev pub chunk_area : ℕ → Standing → List ℕ → List ℕ → List ℕ
chunk_area size st area body = cond (joins size st (length body)) (laid area (st.payload ++ body)) area

-- The octets are one turn, which comes to an outcome and leads to another place.
pub data Turned (g : Setting) (p : Place) : List ℕ → Outcome → Place → Type 0 where
  command : (text : List ℕ) (j : Judged) (a : Answer) (sheet : List ℕ) → commands p.standing.phase ≡ true → Unbroken text →
      JudgedAs (line_in g p.standing.phase text) j → heeded (asked_by g p.standing.phase text) p.standing j ≡ Some a →
      Enrols p.standing a.after p.sheet sheet →
      Turned g p (ended text) (answered a.reply) (record { standing = a.after; area = p.area; sheet = sheet })
  chunk : (text body : List ℕ) (c : Chunk) → commands p.standing.phase ≡ true → Unbroken text →
      JudgedAs (line_in g p.standing.phase text) (Ok (asks.Chunk c)) → length body ≡ c.size →
      Turned g p (ended text ++ body) (chunk_outcome g.size p.standing body c.last)
      (record { standing = chunk_after g.size p.standing body c.last; area = chunk_area g.size p.standing p.area body; sheet = p.sheet })
  message : (octets payload : List ℕ) → p.standing.phase ≡ Data → Message octets payload →
      Turned g p octets (ends p.standing.recipients (within g.size payload))
      (record { standing = idle Greeted; area = laid p.area payload; sheet = p.sheet })

-- The octets are the beginning of a turn that has not finished.
pub data Pending (g : Setting) (st : Standing) : List ℕ → Type 0 where
  in_line : (rest : List ℕ) → commands st.phase ≡ true → Unbroken rest → Pending g st rest
  in_chunk : (text body : List ℕ) (c : Chunk) → commands st.phase ≡ true → Unbroken text →
      JudgedAs (line_in g st.phase text) (Ok (asks.Chunk c)) → length body < c.size → Pending g st (ended text ++ body)
  in_message : (rest : List ℕ) → st.phase ≡ Data → Unfinished rest → Pending g st rest
  over : st.phase ≡ Ended → Pending g st []
