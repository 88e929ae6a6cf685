-- What the state of a data part and its area stand for, however the octets were cut into feeds.
use Rattle.std.specs.Prelude.{◌≡◌, ℕ, ◌≤◌, min, Bool, true, false, cond, List, [], ◌∷◌, ◌++◌, length, take, drop, Some, None, Option, ◌==◌, ◌≢◌, nat_lt}
use Rattle.std.specs.List.{flat_map, AllByRecursion}
use Rattle.protocol.specs.declared.part.DataPart.{DataPart}
use Rattle.protocol.specs.declared.part.LinePlace.{LinePlace}
use Rattle.protocol.specs.declared.part.LinePlace.TheVariants.{Start, Inside, Cr, Dot, DotCr}
use Rattle.protocol.specs.Lines.{Lines}
use Rattle.protocol.specs.Messages.{Message, Body, carried, undotted}

-- Where a line that has not ended stands.
abbrev pub At : LinePlace → List ℕ → Type 0
At Start rest = rest ≡ []
At Dot rest = rest ≡ 46 ∷ []
At DotCr rest = rest ≡ 46 ∷ 13 ∷ []
At Cr rest = ((front : List ℕ) × (rest ≡ front ++ (13 ∷ []))) × (rest ≢ 46 ∷ 13 ∷ [])
At Inside rest = (rest ≢ []) × (rest ≢ 46 ∷ []) × ((front : List ℕ) → rest ≢ front ++ (13 ∷ []))

-- What of that line is payload for certain: nothing, while it may yet prove to be the end line.
abbrev pub certain : LinePlace → List ℕ → List ℕ
certain Start rest = []
certain Dot rest = []
certain DotCr rest = []
certain Cr rest = undotted rest
certain Inside rest = undotted rest

abbrev pub known : LinePlace → List (List ℕ) → List ℕ → List ℕ
known place texts rest = flat_map carried texts ++ certain place rest

-- Payload at the front of an area that held `was`: as much as the area takes, and past it the area is as it was.
pub record Laid (payload was area : List ℕ) (kept : ℕ) (over : Bool) : Type 0 where
  pub count : kept ≡ min (length payload) (length was)
  pub past : over ≡ nat_lt (length was) (length payload)
  pub holds : area ≡ take (length was) payload ++ drop (length payload) was

-- The octets heard so far of a message that has not ended, in an area that held `was` when it began.
pub record DataStands (heard : List ℕ) (d : DataPart) (was area : List ℕ) : Type 0 where
  pub texts : List (List ℕ)
  pub rest : List ℕ
  pub cut : Lines heard texts rest
  pub body : AllByRecursion Body texts
  pub place : At d.place rest
  pub laid : Laid (known d.place texts rest) was area d.kept d.over

-- The octets heard are a message, and its payload is laid.
pub record DataEnds (heard : List ℕ) (d : DataPart) (was area : List ℕ) : Type 0 where
  pub payload : List ℕ
  pub message : Message heard payload
  pub laid : Laid payload was area d.kept d.over

abbrev pub DataAfter : Bool → List ℕ → DataPart → List ℕ → List ℕ → Type 0
DataAfter false heard d was area = DataStands heard d was area
DataAfter true heard d was area = DataEnds heard d was area

-- What some octets do, whatever was heard before them.
pub record DataTook (d d' : DataPart) (area area' octets : List ℕ) (end : Bool) : Type 0 where
  pub after : (heard was : List ℕ) → DataStands heard d was area → DataAfter end (heard ++ octets) d' was area'

-- Some payload is added.
pub record Adds (xs : List ℕ) (d d' : DataPart) (area area' : List ℕ) : Type 0 where
  pub lays : (payload was : List ℕ) → Laid payload was area d.kept d.over → Laid (payload ++ xs) was area' d'.kept d'.over

-- Where a line stands past its front.
abbrev pub inside : ℕ → LinePlace
inside octet = cond (octet == 13) Cr Inside

-- How much payload the area holds: none where it goes past the area.
abbrev pub payload_of : DataPart → Option ℕ
payload_of d = cond d.over None (Some d.kept)

-- How much of an area is payload: all of it, where the payload goes past it.
abbrev pub filled : Option ℕ → List ℕ → ℕ
filled (Some n) area = n
filled None area = length area

-- The octets heard and the area before them settle the state, the area and the end: the cuts between feeds do not matter.
pub record DataLaws : Type 0 where
  -- the payload of a message that is not over lies whole at the front of the area
  pub whole : (heard : List ℕ) (d : DataPart) (was area : List ℕ) (e : DataEnds heard d was area) → d.over ≡ false → (d.kept ≡ length e.payload) × (take d.kept area ≡ e.payload)
  -- what was written is payload of every message that may come of it, and past that the area is as it was
  pub sure : (heard more : List ℕ) (d : DataPart) (was area p : List ℕ) → DataStands heard d was area → Message (heard ++ more) p → (d.kept ≤ length p) × (take d.kept area ≡ take d.kept p) × (drop d.kept area ≡ drop d.kept was)
  pub stands : (heard : List ℕ) (d e : DataPart) (was a b : List ℕ) → DataStands heard d was a → DataStands heard e was b → (d ≡ e) × (a ≡ b)
  pub ends : (heard more : List ℕ) (d e : DataPart) (was a b : List ℕ) → DataEnds heard d was a → DataEnds (heard ++ more) e was b → (more ≡ []) × (d.kept ≡ e.kept) × (d.over ≡ e.over) × (a ≡ b)
  -- the same, by how much payload is told
  pub whole_told : (heard : List ℕ) (d : DataPart) (was area : List ℕ) (e : DataEnds heard d was area) (n : ℕ) → payload_of d ≡ Some n → (n ≡ length e.payload) × (take n area ≡ e.payload)
  pub sure_told : (heard more : List ℕ) (d : DataPart) (was area p : List ℕ) → DataStands heard d was area → Message (heard ++ more) p → (filled (payload_of d) area ≤ length p) × (take (filled (payload_of d) area) area ≡ take (filled (payload_of d) area) p) × (drop (filled (payload_of d) area) area ≡ drop (filled (payload_of d) area) was)
  pub ends_told : (heard more : List ℕ) (d e : DataPart) (was a b : List ℕ) → DataEnds heard d was a → DataEnds (heard ++ more) e was b → (more ≡ []) × (payload_of d ≡ payload_of e) × (a ≡ b)
  pub apart : (heard more : List ℕ) (d e : DataPart) (was a b : List ℕ) → DataEnds heard d was a → DataStands (heard ++ more) e was b → ⊥
