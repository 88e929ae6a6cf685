-- What is filed.
use Rattle.std.specs.Prelude.{ℕ, List}

-- An entry: the mailbox that it is for, and the octets of its payload.
pub record Entry : Type 0 where
  pub mailbox : ℕ
  pub payload : List ℕ
