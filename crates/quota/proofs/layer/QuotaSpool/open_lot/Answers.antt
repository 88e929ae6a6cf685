use Rattle.quota.proofs.Keeps.{kept-opened, same_layer}
use Rattle.quota.proofs.layer.QuotaSpool.open_lot.Goals as goal

pub invariant_of-self : goal.invariant_of-self
invariant_of-self g c = record { kept = kept-opened c.args.self.now c.open_lot.new.self c.open_lot.ensures.held c.open_lot.ensures.lot }

pub returns-clause-refused : goal.returns-clause-refused
returns-clause-refused g c = λ k. same_layer c.args.self.now _ _ (c.open_lot.ensures.refused k)
