-- The directory is asked for the recipient of an RCPT line, and for no other line.
use Rattle.std.specs.Prelude.{◌≡◌, ℕ, List, drop, Option, Ok}
use Rattle.std.specs.Option.{option_map}
use Rattle.command.specs.Lines.{argument_part}
use Rattle.command.specs.declared.argument.RcptLine.{RcptLine}
use Rattle.judgement.specs.Judgements.{Judged}
use Rattle.judgement.specs.declared.judged.Asked.TheVariants as asks
use Rattle.paths.specs.Envelopes.{domain_part, local_part}
use Rattle.protocol.specs.Lines.{trim}
use Rattle.session.specs.declared.session.Mailbox.{Mailbox}

abbrev pub Seeks : (List ℕ → List ℕ → Option ℕ) → List ℕ → List ℕ → Judged → Option ℕ → Type 0
Seeks find name text j r =
    (line : RcptLine) → j ≡ Ok (asks.Rcpt line) →
    r ≡ find (local_part (drop 3 (argument_part (trim text))) line.path) (domain_part (drop 3 (argument_part (trim text))) name line.path)

-- The number of the mailbox that was told, if one was.
abbrev pub number_of : Option Mailbox → Option ℕ
number_of m = option_map (λ b. b.number) m
