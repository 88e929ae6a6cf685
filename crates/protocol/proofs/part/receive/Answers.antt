use Rattle.std.proofs.Common.{[]}
use Rattle.protocol.proofs.MessageCuts as cuts
use Rattle.protocol.proofs.Settles as settles
use Rattle.protocol.proofs.part.receive.Goals as goal

pub returns-clause-after : goal.returns-clause-after
returns-clause-after c = c.feed-fed.ensures.took.after [] c.args.area.now (c.new-part.ensures c.args.area.now)

pub returns-clause-messages : goal.returns-clause-messages
returns-clause-messages c = cuts.laws

pub returns-clause-facts : goal.returns-clause-facts
returns-clause-facts c = cuts.facts

pub returns-clause-settled : goal.returns-clause-settled
returns-clause-settled c = settles.laws
