use Rattle.quota.proofs.Keeps.{kept_withdrawn, same_layer}
use Rattle.quota.proofs.layer.QuotaSpool.withdraw.Goals as goal

pub invariant_of-self : goal.invariant_of-self
invariant_of-self g c = record { kept = kept_withdrawn c.args.self.now c.withdraw.new.self c.withdraw.ensures.held c.withdraw.ensures.lot }

pub returns-clause-idle : goal.returns-clause-idle
returns-clause-idle g c = λ k. same_layer c.args.self.now _ _ (c.withdraw.ensures.idle k)
