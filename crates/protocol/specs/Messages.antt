-- The data part of a message, over whole octet strings: lines, then the first line that is just a dot.
use Rattle.std.specs.Prelude.{◌≡◌, ℕ, cond, ◌⊎◌, List, [], ◌∷◌, ◌++◌, codes, ◌==◌}
use Rattle.std.specs.List.{flat_map, AllByRecursion}
use Rattle.protocol.specs.Lines.{Lines, ended}

abbrev pub dot : List ℕ
dot = 46 ∷ []

-- A line that does not end the message.
abbrev pub Body : List ℕ → Type 0
Body text = text ≡ dot → ⊥

-- Less one dot, where one stands at the front.
abbrev pub undotted : List ℕ → List ℕ
undotted [] = []
undotted (x ∷ xs) = cond (x == 46) xs (x ∷ xs)

-- What a line brings to the payload.
abbrev pub carried : List ℕ → List ℕ
carried text = undotted (ended text)

-- The octets of a whole message, its end line among them, and its payload.
pub record Message (octets payload : List ℕ) : Type 0 where
  pub texts : List (List ℕ)
  pub cut : Lines octets (texts ++ (dot ∷ [])) []
  pub body : AllByRecursion Body texts
  pub carries : payload ≡ flat_map carried texts

-- Octets in which no line ends the message.
pub record Unfinished (octets : List ℕ) : Type 0 where
  pub texts : List (List ℕ)
  pub rest : List ℕ
  pub cut : Lines octets texts rest
  pub body : AllByRecursion Body texts

pub record MessageLaws : Type 0 where
  -- a message has one payload, and goes on in no other message
  pub one : (a more p q : List ℕ) → Message a p → Message (a ++ more) q → (more ≡ []) × (p ≡ q)
  -- octets that begin with a message are not unfinished
  pub apart : (a more p : List ℕ) → Message a p → Unfinished (a ++ more) → ⊥
  -- the unfinished octets are the proper beginnings of messages
  pub begins : (a : List ℕ) → Unfinished a → (more : List ℕ) × ((p : List ℕ) × Message (a ++ more) p)
  pub within : (a : List ℕ) (b : ℕ) (more p : List ℕ) → Message (a ++ (b ∷ more)) p → Unfinished a
  -- all octets are unfinished or begin with a message
  pub either : (a : List ℕ) → Unfinished a ⊎ ((m : List ℕ) × ((more : List ℕ) × ((p : List ℕ) × ((a ≡ m ++ more) × Message m p))))

-- Messages that were worked out by hand.
pub record MessageFacts : Type 0 where
  pub empty : Message (codes ".\r\n") []
  pub dots : Message (codes "..hi\r\n.\r\n") (codes ".hi\r\n")
  pub bare : Message (codes "a\n.\n\r\n.\r\n") (codes "a\n.\n\r\n")
