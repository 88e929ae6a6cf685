use Rattle.std.proofs.Common.{arith, rules}
use Rattle.ends.specs.Filing.{entry}
use Rattle.ends.proofs.Faulting.{one_lot}
use Rattle.ends.proofs.lot.file_one.Goals as goal

pub returns-clause-lot : goal.returns-clause-lot
returns-clause-lot g c =
    one_lot g.S.Spool c.args.spool.now c.file.new.spool (entry c.args.payload.now c.args.recipient) c.file.result c.map_err.result _ (omega arith) c.requires c.file.ensures.files c.map_err.ensures.cases (λ x f p. search rules)
