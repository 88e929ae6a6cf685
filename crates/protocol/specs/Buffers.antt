-- What a line buffer stands for, however the octets of the line came.
use Rattle.std.specs.Prelude.{◌≡◌, ℕ, min, Bool, true, false, List, [], ◌∷◌, ◌++◌, length, take, ◌≢◌, nat_lt}
use Rattle.protocol.specs.declared.line.LineBuffer.{LineBuffer}
use Rattle.protocol.specs.Lines.{Unbroken, ended}

-- The most octets that a line may have, its CR LF among them.
abbrev pub longest : ℕ
longest = 538

-- The octets that the buffer keeps.
abbrev pub kept : LineBuffer → List ℕ
kept b = take b.used b.octets

-- Whether the octets end in CR.
abbrev pub CrLast : Bool → List ℕ → Type 0
CrLast true xs = (front : List ℕ) × (xs ≡ front ++ (13 ∷ []))
CrLast false xs = (front : List ℕ) → xs ≢ front ++ (13 ∷ [])

-- The octets so far of a line that has not ended.
pub record LineStands (rest : List ℕ) (b : LineBuffer) : Type 0 where
  pub unended : Unbroken rest
  pub count : b.used ≡ min longest (length rest)
  pub front : kept b ≡ take longest rest
  pub long : b.long ≡ nat_lt longest (length rest)
  pub cr : CrLast b.cr rest

-- A whole line, with its CR LF: the buffer keeps its text, or as much of it as a longest line has octets.
pub record LineEnds (line : List ℕ) (b : LineBuffer) : Type 0 where
  pub text : List ℕ
  pub whole : line ≡ ended text
  pub first : Unbroken text
  pub front : kept b ≡ take longest text
  pub long : b.long ≡ nat_lt longest (length line)

abbrev pub LineAfter : Bool → List ℕ → LineBuffer → Type 0
LineAfter false octets b = LineStands octets b
LineAfter true octets b = LineEnds octets b

-- What one octet does, whatever came before it.
pub record LinePushed (b b' : LineBuffer) (octet : ℕ) (end : Bool) : Type 0 where
  pub after : (rest : List ℕ) → LineStands rest b → LineAfter end (rest ++ (octet ∷ [])) b'

pub record BufferLaws : Type 0 where
  -- a line that is not too long is kept whole
  pub short : (line : List ℕ) (b : LineBuffer) → LineEnds line b → b.long ≡ false → line ≡ ended (kept b)
  -- the octets that came settle what the buffer tells of them, and whether the line has ended
  pub stands : (rest : List ℕ) (b c : LineBuffer) → LineStands rest b → LineStands rest c → (kept b ≡ kept c) × (b.long ≡ c.long) × (b.cr ≡ c.cr)
  pub ends : (line : List ℕ) (b c : LineBuffer) → LineEnds line b → LineEnds line c → (kept b ≡ kept c) × (b.long ≡ c.long)
  pub apart : (octets : List ℕ) (b c : LineBuffer) → LineStands octets b → LineEnds octets c → ⊥
