-- A command line: a verb up to the first space, and an argument behind it.
use Rattle.std.specs.Prelude.{◌≡◌, ℕ, ◌+◌, Bool, not, List, map, length, take, drop, ◌==◌, Option}
use Rattle.std.specs.Char.{to_ascii_lowercase}
use Rattle.std.specs.List.{prefix_len}
use Rattle.address.specs.Classes.{printable}
use Rattle.address.specs.Words.{AllIn, run}
use Rattle.command.specs.Verbs.{first_named, verbs}
use Rattle.command.specs.declared.verb.Verb.{Verb}

-- The space is octet 32.
abbrev pub not_space : ℕ → Bool
not_space x = not (x == 32)

-- What stands before the first space, and what stands behind it.
abbrev pub verb_part : List ℕ → List ℕ
verb_part line = run not_space line

abbrev pub argument_part : List ℕ → List ℕ
argument_part line = drop (prefix_len not_space line + 1) line

abbrev pub verb_of : List ℕ → Option Verb
verb_of line = first_named verbs (verb_part line)

-- Every octet is printable.
abbrev pub Printable : List ℕ → Type 0
Printable line = AllIn printable line

-- The octets begin with a word, in any case.
abbrev pub Begins : List ℕ → List ℕ → Type 0
Begins word xs = map to_ascii_lowercase (take (length word) xs) ≡ map to_ascii_lowercase word
