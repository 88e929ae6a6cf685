use Rattle.std.proofs.Common.{arith, rules}
use Rattle.ends.specs.Filing.{entry}
use Rattle.ends.proofs.Faulting.{one_try}
use Rattle.ends.proofs.lot.stage_one.Goals as goal

pub returns-clause-tried : goal.returns-clause-tried
returns-clause-tried g c =
    one_try g.S.Spool c.args.spool.now c.stage.new.spool (entry c.args.payload.now c.args.recipient) c.stage.result c.map_err.result _ (omega arith) c.requires c.stage.ensures.refused c.stage.ensures.answer c.stage.ensures.held c.stage.ensures.lot c.map_err.ensures.cases (λ x f p. search rules)
