-- The arguments of MAIL and RCPT: a keyword, a path, parameters.
use Rattle.std.specs.Prelude.{◌≡◌, ℕ, ◌⊎◌, List, length, drop, codes}
use Rattle.paths.specs.Envelopes.{ForwardAt, ReverseAt, forward_end, reverse_end}
use Rattle.paths.specs.Paths.{Fault}
use Rattle.paths.specs.declared.envelope.ForwardPath.{ForwardPath}
use Rattle.paths.specs.declared.envelope.ReversePath.{ReversePath}
use Rattle.command.specs.Faults.{Verdict, bad_argument, bad_path}
use Rattle.command.specs.Lines.{Begins}
use Rattle.command.specs.Parameters.{AllRight, Behind, Declares, Knows, Parameters, knows_none, size_only}
use Rattle.command.specs.declared.argument.MailLine.{MailLine}
use Rattle.command.specs.declared.argument.RcptLine.{RcptLine}

-- How a command's argument is written: its keyword, in any case, its paths and where each ends, and the parameters that it knows.
pub record Syntax (A : Type 0) : Type 1 where
  pub keyword : List ℕ
  pub At : List ℕ → A → Type 0
  pub end : A → ℕ
  pub knows : Knows

abbrev pub behind_keyword : {A : Type 0} → Syntax A → List ℕ → List ℕ
behind_keyword s xs = drop (length s.keyword) xs

abbrev pub behind_path : {A : Type 0} → Syntax A → List ℕ → A → List ℕ
behind_path s xs path = drop (s.end path) (behind_keyword s xs)

-- An argument begins with the keyword and a path.
pub record Opens {A : Type 0} (s : Syntax A) (xs : List ℕ) (path : A) : Type 0 where
  pub keyword : Begins s.keyword xs
  pub route : s.At (behind_keyword s xs) path

-- An argument is the keyword, a path and right parameters.
pub record Accepted {A : Type 0} (s : Syntax A) (xs : List ℕ) (path : A) (params : List (List ℕ)) : Type 0 where
  pub opens : Opens s xs path
  pub spelt : Parameters (behind_path s xs path) params
  pub right : AllRight s.knows params

-- What is wrong with an argument: the keyword is missing; behind it stands no path, by the number of the path's fault;
-- or what stands behind the path is wrong.
pub record PathFaulty {A : Type 0} (s : Syntax A) (xs : List ℕ) (v : Verdict) : Type 0 where
  pub keyword : Begins s.keyword xs
  pub number : ℕ
  pub tells : v ≡ bad_path number
  pub fault : Fault s.At (behind_keyword s xs) number

pub record BehindFaulty {A : Type 0} (s : Syntax A) (xs : List ℕ) (v : Verdict) : Type 0 where
  pub path : A
  pub opens : Opens s xs path
  pub behind : Behind s.knows (behind_path s xs path) v

abbrev pub Faulty : {A : Type 0} → Syntax A → List ℕ → Verdict → Type 0
Faulty s xs v =
    ((v ≡ bad_argument) × (Begins s.keyword xs → ⊥))
    ⊎ (PathFaulty s xs v
    ⊎ BehindFaulty s xs v)

-- No line is read from an argument, by a fault of this verdict.
pub record Refused {A B : Type 0} (s : Syntax A) (Is : List ℕ → B → Type 0) (xs : List ℕ) (v : Verdict) : Type 0 where
  pub why : Faulty s xs v
  pub none : (line : B) → Is xs line → ⊥

abbrev pub mail_syntax : Syntax ReversePath
mail_syntax = record { keyword = codes "FROM:"; At = ReverseAt; end = reverse_end; knows = size_only }

abbrev pub rcpt_syntax : Syntax ForwardPath
rcpt_syntax = record { keyword = codes "TO:"; At = ForwardAt; end = forward_end; knows = knows_none }

-- The argument is that of a MAIL line, and of an RCPT line.
pub record IsMail (xs : List ℕ) (line : MailLine) : Type 0 where
  pub params : List (List ℕ)
  pub accepted : Accepted mail_syntax xs line.path params
  pub size : Declares params line.size

pub record IsRcpt (xs : List ℕ) (line : RcptLine) : Type 0 where
  pub params : List (List ℕ)
  pub accepted : Accepted rcpt_syntax xs line.path params
