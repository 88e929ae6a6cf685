use Rattle.std.proofs.Common.{arith}
use Rattle.command.specs.Faults.{verdict}
use Rattle.command.specs.Parameters.{knows_none}
use Rattle.command.proofs.Judging.{first-wrong}
use Rattle.command.proofs.Spacing.{behind_space, parted}
use Rattle.command.proofs.parameter.rcpt_parameters.Goals as goal

pub returns-in-32 : goal.returns-in-32
returns-in-32 c =
    let xs = c.args.rest.now in
    let first = c.cut_at_space.result.0.now in
    let p = parted xs _ (behind_space xs c.in-32.len_at_least (omega arith)) first c.cut_at_space.ensures.word in
    first-wrong knows_none xs first p.params p.whole (verdict c.foreign_fault.result) c.foreign_fault.ensures
