use Rattle.quota.proofs.Keeps.{kept_committed, same_layer}
use Rattle.quota.proofs.layer.QuotaSpool.commit.Goals as goal

pub invariant_of-self : goal.invariant_of-self
invariant_of-self g c = record { kept = kept_committed c.args.self.now c.commit.new.self c.commit.ensures.held c.commit.ensures.lot }

pub returns-clause-idle : goal.returns-clause-idle
returns-clause-idle g c = λ k. same_layer c.args.self.now _ _ (c.commit.ensures.idle k)
