-- What the records of a session, its area and its sheet stand for, however its octets came.
use Rattle.std.specs.Prelude.{◌≡◌, ℕ, ◌%◌, ◌≤◌, Bool, true, cond, ◌⊎◌, List, [], ◌++◌, map, length, take, replicate, Some, Option, Ok}
use Rattle.std.specs.Option.{option_map}
use Rattle.command.specs.declared.chunk.Chunk.{Chunk}
use Rattle.judgement.specs.Judgements.{JudgedAs}
use Rattle.judgement.specs.Judgements.{Judged}
use Rattle.judgement.specs.declared.judged.Asked.TheVariants as asks
use Rattle.judgement.specs.declared.phase.Kind.{Kind}
use Rattle.judgement.specs.declared.phase.Phase.{Phase}
use Rattle.judgement.specs.declared.phase.Phase.TheVariants as phase
use Rattle.protocol.specs.Buffers.{LineStands}
use Rattle.protocol.specs.DataParts.{DataStands}
use Rattle.protocol.specs.Lines.{Unbroken, ended}
use Rattle.protocol.specs.declared.part.DataPart.{DataPart}
use Rattle.protocol.specs.declared.reply.Reply.{Reply}
use Rattle.spool.specs.Lists.{records}
use Rattle.session.specs.Standings.{Standing, answer, commands, heeded, idle, most}
use Rattle.session.specs.Turns.{Setting, Place, Outcome, answered, ends, Turned, Enrols, joins, laid, line_in}
use Rattle.session.specs.declared.session.ChunkPart.{ChunkPart}
use Rattle.session.specs.declared.session.Event.{Event}
use Rattle.session.specs.declared.session.Event.TheVariants.{More, Answered, MessageEnd}
use Rattle.session.specs.declared.session.Mode.{Mode}
use Rattle.session.specs.declared.session.Mode.TheVariants as mode
use Rattle.session.specs.declared.session.Session.{Session}

-- The mailboxes of records of the sheet.
abbrev pub mailboxes : List ℕ → List ℕ
mailboxes rs = map (λ r. r % 64) rs

abbrev pub standing_of : Session → List ℕ → List ℕ → Standing
standing_of x area sheet = record { phase = x.phase; recipients = mailboxes (records x.recipients sheet); payload = take x.kept area }

-- Whether octets of a line are awaited: in Ended there are none.
abbrev pub Awaits : Phase → List ℕ → Type 0
Awaits p rest = (commands p ≡ true) ⊎ ((p ≡ phase.Ended) × (rest ≡ []))

pub record InLine (p : Place) (rest : List ℕ) (x : Session) (area : List ℕ) : Type 0 where
  pub awaits : Awaits p.standing.phase rest
  pub line : LineStands rest x.line
  pub still : area ≡ p.area

-- A chunk, of which some octets came.
pub record Came (g : Setting) (p : Place) (x : Session) (area : List ℕ) (c : Chunk) (keeps : Bool) (text body : List ℕ) : Type 0 where
  pub heard : commands p.standing.phase ≡ true
  pub first : Unbroken text
  pub announced : JudgedAs (line_in g p.standing.phase text) (Ok (asks.Chunk c))
  pub joining : keeps ≡ joins g.size p.standing c.size
  pub lays : area ≡ cond keeps (laid p.area (p.standing.payload ++ body)) p.area
  pub line : LineStands [] x.line

pub record InChunk (g : Setting) (p : Place) (rest : List ℕ) (x : Session) (area : List ℕ) (c : ChunkPart) : Type 0 where
  pub text : List ℕ
  pub body : List ℕ
  pub whole : rest ≡ ended text ++ body
  pub count : c.got ≡ length body
  pub came : Came g p x area c.chunk c.joins text body

pub record InData (p : Place) (rest : List ℕ) (x : Session) (area : List ℕ) (d : DataPart) : Type 0 where
  pub heard : p.standing.phase ≡ phase.Data
  pub stands : DataStands rest d p.area area
  pub line : LineStands [] x.line

abbrev pub InMode : Setting → Place → List ℕ → Session → List ℕ → Mode → Type 0
InMode g p rest x area mode.Line = InLine p rest x area
InMode g p rest x area (mode.Chunk c) = InChunk g p rest x area c
InMode g p rest x area (mode.Data d) = InData p rest x area d

-- A session at a place, apart from the octets of a turn that has not finished.
pub record Based (g : Setting) (p : Place) (x : Session) (sheet : List ℕ) : Type 0 where
  pub kind : x.kind ≡ g.kind
  pub standing : standing_of x p.area sheet ≡ p.standing
  pub listed : sheet ≡ p.sheet
  pub wide : length p.area ≡ g.size
  pub records : length sheet ≡ most
  pub few : x.recipients.count ≤ most
  pub kept : x.kept ≤ g.size

-- A session at a place, with the octets so far of a turn that has not finished.
pub record Stands (g : Setting) (p : Place) (rest : List ℕ) (x : Session) (area sheet : List ℕ) : Type 0 where
  pub base : Based g p x sheet
  pub mode : InMode g p rest x area x.mode

-- What octets that were heard come to.
pub record TurnEnds (g : Setting) (p : Place) (heard : List ℕ) (x : Session) (area sheet : List ℕ) (o : Outcome) : Type 0 where
  pub next : Place
  pub turn : Turned g p heard o next
  pub stands : Stands g next [] x area sheet

abbrev pub After : Setting → Place → List ℕ → Session → List ℕ → List ℕ → Event → Type 0
After g p heard x area sheet More = Stands g p heard x area sheet
After g p heard x area sheet (Answered r) = TurnEnds g p heard x area sheet (answered r)
After g p heard x area sheet (MessageEnd n k) = TurnEnds g p heard x area sheet (ends (mailboxes (take n sheet)) (option_map (λ m. take m area) k))

-- The setting of a session that is handed an area, with the receiver's name and what a directory tells.
abbrev pub setting_of : Session → List ℕ → List ℕ → (List ℕ → List ℕ → Option ℕ) → Setting
setting_of x name area find = record { kind = x.kind; name = name; size = length area; find = find }

-- What some octets do, whatever came before them.
pub record Hears (g : Setting) (x x' : Session) (area area' sheet sheet' octets : List ℕ) (e : Event) : Type 0 where
  pub after : (p : Place) (rest : List ℕ) → Stands g p rest x area sheet → After g p (rest ++ octets) x' area' sheet' e

-- The transaction is dropped, in a phase.
pub record Started (x x' : Session) (p : Phase) : Type 0 where
  pub phase : x'.phase ≡ p
  pub recipients : x'.recipients.count ≡ 0
  pub kept : x'.kept ≡ 0
  pub kind : x'.kind ≡ x.kind
  pub line : x'.line ≡ x.line
  pub mode : x'.mode ≡ x.mode

-- What the next octets are of once a command line was answered: of a line, of a message, or there are none.
pub data Ready : Phase → Mode → Type 0 where
  for_line : {p : Phase} → commands p ≡ true → Ready p mode.Line
  for_none : Ready phase.Ended mode.Line
  for_data : (d : DataPart) → ((was : List ℕ) → DataStands [] d was was) → Ready phase.Data (mode.Data d)

-- A command line is obeyed, where `asked` is the directory's answer.
pub record Obeyed (x x' : Session) (sheet sheet' : List ℕ) (asked : Option ℕ) (j : Judged) (r : Reply) : Type 0 where
  pub heeds : (area : List ℕ) → heeded (λ _. asked) (standing_of x area sheet) j ≡ Some (answer r (standing_of x' area sheet'))
  pub enrols : (area : List ℕ) → Enrols (standing_of x area sheet) (standing_of x' area sheet') sheet sheet'
  pub kind : x'.kind ≡ x.kind
  pub line : x'.line ≡ x.line
  pub few : x.recipients.count ≤ most → x'.recipients.count ≤ most
  pub kept : x'.kept ≤ x.kept
  pub ready : commands x.phase ≡ true → x.mode ≡ mode.Line → Ready x'.phase x'.mode

-- What the line of a chunk does, and what the last octet of a chunk does.
pub record Announced (x x' : Session) (area sheet : List ℕ) (c : Chunk) (e : Event) : Type 0 where
  pub after : (g : Setting) (p : Place) (text : List ℕ) → g.size ≡ length area → Based g p x sheet → area ≡ p.area →
      commands p.standing.phase ≡ true → Unbroken text → JudgedAs (line_in g p.standing.phase text) (Ok (asks.Chunk c)) → LineStands [] x.line → After g p (ended text) x' area sheet e

pub record ChunkEnds (x x' : Session) (area sheet : List ℕ) (c : Chunk) (keeps : Bool) (e : Event) : Type 0 where
  pub after : (g : Setting) (p : Place) (text body : List ℕ) → g.size ≡ length area → Based g p x sheet → Came g p x area c keeps text body → length body ≡ c.size → After g p (ended text ++ body) x' area sheet e

-- The same of octets that no directory is asked for.
pub record Heeding (x x' : Session) (area area' sheet octets : List ℕ) (e : Event) : Type 0 where
  pub in_any : (name : List ℕ) (find : List ℕ → List ℕ → Option ℕ) → Hears (setting_of x name area find) x x' area area' sheet sheet octets e

-- Nothing was taken, and nothing alters.
pub record Still (x x' : Session) (area area' sheet sheet' : List ℕ) (e : Event) : Type 0 where
  pub same_session : x' ≡ x
  pub same_area : area' ≡ area
  pub same-sheet : sheet' ≡ sheet
  pub more : e ≡ More

-- A conversation that begins stands in Fresh, with nothing taken, in any setting of its protocol and any memory.
pub record Opens (kind : Kind) (x : Session) : Type 0 where
  pub zero : x.line.octets ≡ replicate 538 0
  pub stands : (g : Setting) (area sheet : List ℕ) → g.kind ≡ kind → length area ≡ g.size → length sheet ≡ most → Stands g (record { standing = idle phase.Fresh; area = area; sheet = sheet }) [] x area sheet
