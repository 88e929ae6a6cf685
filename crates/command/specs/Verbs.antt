-- The verbs and their names.
use Rattle.std.specs.Prelude.{ℕ, Bool, List, [], ◌∷◌, map, codes, Option}
use Rattle.std.specs.List.{find}
use Rattle.std.specs.Char.{to_ascii_lowercase}
use Rattle.std.specs.Str.{bytes_eq}
use Rattle.command.specs.declared.verb.Verb.{Verb}
use Rattle.command.specs.declared.verb.Verb.TheVariants.{Helo, Ehlo, Lhlo, Mail, Rcpt, Data, Bdat, Rset, Noop, Vrfy, Quit}

abbrev pub spelling : Verb → List ℕ
spelling Helo = codes "HELO"
spelling Ehlo = codes "EHLO"
spelling Lhlo = codes "LHLO"
spelling Mail = codes "MAIL"
spelling Rcpt = codes "RCPT"
spelling Data = codes "DATA"
spelling Bdat = codes "BDAT"
spelling Rset = codes "RSET"
spelling Noop = codes "NOOP"
spelling Vrfy = codes "VRFY"
spelling Quit = codes "QUIT"

abbrev pub verbs : List Verb
verbs = Helo ∷ Ehlo ∷ Lhlo ∷ Mail ∷ Rcpt ∷ Data ∷ Bdat ∷ Rset ∷ Noop ∷ Vrfy ∷ Quit ∷ []

-- A word is a verb's name, in any case.
abbrev pub names : List ℕ → Verb → Bool
names word v = bytes_eq (map to_ascii_lowercase word) (map to_ascii_lowercase (spelling v))

-- The verb whose name a word is; none where it is none of the names.
abbrev pub first_named : List Verb → List ℕ → Option Verb
first_named vs word = find (names word) vs
