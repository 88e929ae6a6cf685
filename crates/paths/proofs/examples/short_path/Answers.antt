use Rattle.std.proofs.Common.{◌≡◌, Ok, Err, codes, Result, sym, ap, MatchResult}
use Rattle.address.specs.Parts.{Only}
use Rattle.paths.specs.Paths.{PathAt, Fault, fault_number}
use Rattle.paths.specs.declared.path.Path.{Path}
use Rattle.paths.specs.declared.path.PathFault.{PathFault}
use Rattle.paths.proofs.Worked.{examples}
use Rattle.paths.proofs.examples.short_path.Goals as goal

abbrev short : Path
short = record { at = 2; end = 5 }

read_is : (r : Result Path PathFault) →
    MatchResult r (λ p. Only (PathAt (codes "<a@b>")) p) (λ e. Fault PathAt (codes "<a@b>") (fault_number e)) → r ≡ Ok short
read_is (Ok p) h = ap (λ v. Ok v) (sym (h.alone short examples.reads))
read_is (Err e) h = absurd (h.none short examples.reads)

pub returns : goal.returns
returns c = record { path = read_is c.read_path.result c.read_path.ensures; examples = examples }
