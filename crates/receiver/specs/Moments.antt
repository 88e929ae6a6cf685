-- The plain tally of one session, when it agrees with the receiver's records, and what some octets do to it.
use Rattle.std.specs.Prelude.{◌≡◌, ℕ, ◌+◌, ◌<◌, ◌≤◌, List, [], ◌++◌, length, take, None, Option, ◌≢◌}
use Rattle.std.specs.List.{flat_map}
use Rattle.ends.specs.Ledgers.{collections_of, count, counts_of}
use Rattle.ends.specs.declared.ledger.Ledger.{Ledger}
use Rattle.judgement.specs.declared.phase.Kind.{Kind}
use Rattle.protocol.specs.Replies.{octets_of as wired}
use Rattle.protocol.specs.declared.reply.Reply.{Reply}
use Rattle.session.specs.Places.{Stands}
use Rattle.session.specs.Queues.{waits}
use Rattle.session.specs.Turns.{Place, Setting}
use Rattle.spool.specs.Entries.{Entry}
use Rattle.spool.specs.Meanings.{Meaning}
use Rattle.receiver.specs.Turns.{Chain, Turn, filed_by, octets_of, point, replies_of}
use Rattle.receiver.specs.declared.seat.Seat.{Seat}

-- Replies on the wire, one after another.
abbrev pub wire : List ℕ → ℕ → List Reply → List ℕ
wire name size rs = flat_map (wired name size) rs

-- The tally of one session since it was opened: its protocol and the length of its area; where it stood when the last turn
-- finished; the octets taken since then; all replies that it is owed; all octets that were written for it.
pub record Talk : Type 0 where
  pub kind : Kind
  pub size : ℕ
  pub place : Place
  pub rest : List ℕ
  pub owed : List Reply
  pub said : List ℕ

-- Turns finish, and octets are written.
abbrev pub advanced : Talk → Place → List ℕ → List Turn → List ℕ → Talk
advanced k place rest turns wrote = record {
  kind = k.kind;
  size = k.size;
  place = place;
  rest = rest;
  owed = k.owed ++ flat_map replies_of turns;
  said = k.said ++ wrote;
}

abbrev pub setting : List ℕ → (List ℕ → List ℕ → Option ℕ) → Talk → Setting
setting name find k = record { kind = k.kind; name = name; size = k.size; find = find }

-- The receiver's records of a session, with its memory, the ledger and the spool.
pub record Moment (S : Type 0) : Type 0 where
  pub seat : Seat
  pub ledger : Ledger
  pub area : List ℕ
  pub sheet : List ℕ
  pub spool : S

abbrev pub moment : {S : Type 0} → Seat → Ledger → List ℕ → List ℕ → S → Moment S
moment x l area sheet s = record { seat = x; ledger = l; area = area; sheet = sheet; spool = s }

-- The records agree with the tally: the session stands there; what was written are the first replies that it is owed, and the
-- others wait; while one waits nothing of the next turn was taken.
pub record Fits (name : List ℕ) (find : List ℕ → List ℕ → Option ℕ) (k : Talk) (x : Seat) (area sheet : List ℕ) : Type 0 where
  pub stands : Stands (setting name find k) k.place k.rest x.session area sheet
  pub kind_is : x.kind ≡ k.kind
  pub length_is : x.size ≡ k.size
  pub written : List Reply
  pub owes : k.owed ≡ written ++ waits x.waiting
  pub said_is : k.said ≡ wire name k.size written
  pub quiet : (waits x.waiting ≢ []) → k.rest ≡ []

-- The ledger's filed counts are those of the pairs filed.
pub record Counts (l : Ledger) (filed : List Entry) : Type 0 where
  pub filings : (m : ℕ) → m < 64 → counts_of l m ≡ count m filed

module _ {S : Type 0} (sp : Meaning S) (name : List ℕ) (find : List ℕ → List ℕ → Option ℕ) where
  -- What octets taken and written come to, at a tally: turns finish, and a rest is left.
  pub record Went (k : Talk) (filed : List Entry) (m m' : Moment S) (took wrote : List ℕ) : Type 0 where
    pub turns : List Turn
    pub place : Place
    pub rest : List ℕ
    pub cut : k.rest ++ took ≡ flat_map octets_of turns ++ rest
    pub chain : Chain sp (setting name find k) (point k.place filed m.spool) turns (point place (filed ++ flat_map filed_by turns) m'.spool)
    pub fits : Fits name find (advanced k place rest turns wrote) m'.seat m'.area m'.sheet
    pub counts : Counts m'.ledger (filed ++ flat_map filed_by turns)
    pub holds : sp.held m'.spool ≡ sp.held m.spool ++ flat_map filed_by turns
    pub idle : sp.lot m'.spool ≡ None

  -- The same at every tally that agrees before.
  pub record Told (m m' : Moment S) (took wrote : List ℕ) : Type 0 where
    pub at : (k : Talk) (filed : List Entry) → Fits name find k m.seat m.area m.sheet → Counts m.ledger filed → sp.lot m.spool ≡ None → Went k filed m m' took wrote
    pub collections : collections_of m'.ledger ≡ collections_of m.ledger

  -- The last step of a feed that leaves fewer than 256 octets of output wrote a reply, with 256 octets left before it; nothing
  -- was taken after it.
  pub record Paced (m m' : Moment S) (took output : List ℕ) (written : ℕ) : Type 0 where
    pub before : ℕ
    pub reply : Reply
    pub space : before + 256 ≤ length output
    pub whole : take written output ≡ take before output ++ wired name m'.seat.size reply
    pub rests : (k : Talk) (filed : List Entry) → Fits name find k m.seat m.area m.sheet → Counts m.ledger filed → sp.lot m.spool ≡ None → (w : Went k filed m m' took (take written output)) × (w.rest ≡ [])
