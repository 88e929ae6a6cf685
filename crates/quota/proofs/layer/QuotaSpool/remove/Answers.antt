use Rattle.quota.proofs.Keeps.{kept_removed, room_again, same_layer}
use Rattle.quota.proofs.layer.QuotaSpool.remove.Goals as goal

pub invariant_of-self : goal.invariant_of-self
invariant_of-self g c = record { kept = kept_removed c.args.self.now c.remove.new.self _ c.remove.ensures.held c.remove.ensures.lot }

pub returns-clause-refused : goal.returns-clause-refused
returns-clause-refused g c = λ k. same_layer c.args.self.now _ _ (c.remove.ensures.refused k)

pub returns-clause-room : goal.returns-clause-room
returns-clause-room g c =
    let s = c.remove.ensures in
    λ o e i. room_again c.args.self.now c.remove.new.self c.args.at e s.held s.lot o i (s.room o e i)
