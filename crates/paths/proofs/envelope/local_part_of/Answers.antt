use Rattle.std.proofs.Common.{rules}
use Rattle.paths.proofs.Bare.{local_means}
use Rattle.paths.proofs.envelope.local_part_of.Goals as goal

pub returns-in-Postmaster-clause-meaning : goal.returns-in-Postmaster-clause-meaning
returns-in-Postmaster-clause-meaning c = search (rules, local_means)
