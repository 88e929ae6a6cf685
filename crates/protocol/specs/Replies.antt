-- Every reply: its code, the values that it carries, and its octets.
use Rattle.std.specs.Prelude.{ℕ, ◌+◌, ◌/◌, ◌%◌, List, [], ◌∷◌, ◌++◌, codes, decimal}
use Rattle.refusals.specs.Causes.{cause_number}
use Rattle.protocol.specs.declared.reply.Reply.{Reply}
use Rattle.protocol.specs.declared.reply.Reply.TheVariants.{Greeting, Closing, Hello, Extensions, Done, CannotVerify, GoAhead, TooManyRecipients, LedgerFull, NoRoom, UnknownCommand, BadPath, BadArgument, OutOfOrder, NoSuchMailbox, TooLarge, UnknownParameter}

-- The first line has the words and then the detail, a name or the values; each further line has a text of its own.
pub record Saying : Type 0 where
  pub code : ℕ
  pub values : List ℕ
  pub words : List ℕ
  pub detail : List ℕ
  pub further : List (List ℕ)

abbrev fixed : ℕ → List ℕ → Saying
fixed n text = record { code = n; values = []; words = text; detail = []; further = [] }

abbrev named : ℕ → List ℕ → Saying
named n name = record { code = n; values = []; words = []; detail = name; further = [] }

-- What each reply says, of a receiver with a name and areas of a size.
abbrev pub saying : List ℕ → ℕ → Reply → Saying
saying name size Greeting = named 220 name
saying name size Closing = named 221 name
saying name size Hello = named 250 name
saying name size Extensions = record {
  code = 250;
  values = [];
  words = [];
  detail = name;
  further = (codes "SIZE " ++ decimal size) ∷ codes "PIPELINING" ∷ codes "CHUNKING" ∷ [];
}
saying name size Done = fixed 250 (codes "OK")
saying name size CannotVerify = fixed 252 (codes "Cannot verify")
saying name size GoAhead = fixed 354 (codes "Go ahead")
saying name size TooManyRecipients = fixed 452 (codes "Too many recipients")
saying name size LedgerFull = fixed 452 (codes "Ledger full")
saying name size (NoRoom fault) = record {
  code = 452;
  values = fault.layer ∷ cause_number fault.cause ∷ [];
  words = codes "No room ";
  detail = decimal fault.layer ++ (codes "." ++ decimal (cause_number fault.cause));
  further = [];
}
saying name size UnknownCommand = fixed 500 (codes "Unknown command")
saying name size (BadPath fault) = record { code = 501; values = fault ∷ []; words = codes "Bad path "; detail = decimal fault; further = [] }
saying name size BadArgument = fixed 501 (codes "Bad argument")
saying name size OutOfOrder = fixed 503 (codes "Out of order")
saying name size NoSuchMailbox = fixed 550 (codes "No such mailbox")
saying name size TooLarge = fixed 552 (codes "Message too large")
saying name size UnknownParameter = fixed 555 (codes "Unknown parameter")

-- A code has three digits.
abbrev pub digits : ℕ → List ℕ
digits n = (48 + n / 100) ∷ (48 + n / 10 % 10) ∷ (48 + n % 10) ∷ []

-- A space follows the code in the last line, and a hyphen in any other.
abbrev pub mark : List (List ℕ) → List ℕ
mark [] = codes " "
mark (t ∷ ts) = codes "-"

abbrev pub wired : ℕ → List ℕ → List (List ℕ) → List ℕ
wired n text [] = digits n ++ (mark [] ++ (text ++ codes "\r\n"))
wired n text (t ∷ ts) = digits n ++ (mark (t ∷ ts) ++ (text ++ (codes "\r\n" ++ wired n t ts)))

abbrev pub octets_of : List ℕ → ℕ → Reply → List ℕ
octets_of name size r = wired (saying name size r).code ((saying name size r).words ++ (saying name size r).detail) (saying name size r).further

abbrev pub code_of : Reply → ℕ
code_of r = (saying [] 0 r).code

abbrev pub values_of : Reply → List ℕ
values_of r = (saying [] 0 r).values

-- A reply up to its detail.
abbrev pub lead_of : Reply → List ℕ
lead_of r = digits (code_of r) ++ (mark (saying [] 0 r).further ++ (saying [] 0 r).words)
