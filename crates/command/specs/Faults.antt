-- What is wrong with a line's argument, with the code of the reply and the values that the reply tells.
use Rattle.std.specs.Prelude.{ℕ, List, [], ◌∷◌}
use Rattle.paths.specs.Paths.{fault_number}
use Rattle.command.specs.declared.fault.LineFault.{LineFault}
use Rattle.command.specs.declared.fault.LineFault.TheVariants.{BadPath, BadArgument, UnknownParameter}

pub record Verdict : Type 0 where
  pub code : ℕ
  pub values : List ℕ

-- A bad path, by the number of its fault; any other bad argument; a parameter that the command does not know.
abbrev pub bad_path : ℕ → Verdict
bad_path number = record { code = 501; values = number ∷ [] }

abbrev pub bad_argument : Verdict
bad_argument = record { code = 501; values = [] }

abbrev pub unknown_parameter : Verdict
unknown_parameter = record { code = 555; values = [] }

abbrev pub verdict : LineFault → Verdict
verdict (BadPath fault) = bad_path (fault_number fault)
verdict BadArgument = bad_argument
verdict UnknownParameter = unknown_parameter
