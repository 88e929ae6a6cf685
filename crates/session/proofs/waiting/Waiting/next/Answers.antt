use Rattle.std.proofs.Common.{sym, ap}
use Rattle.session.specs.Queues.{first}
use Rattle.session.proofs.Queuing.{wait_first, wait_none}
use Rattle.session.proofs.waiting.Waiting.next.Goals as goal

pub returns-then-self : goal.returns-then-self
returns-then-self c =
    let x = c.args.self.now in
    wait_first x.replies x.count x.sent x.whole x.few _ c.if-self.true

pub returns-else-self : goal.returns-else-self
returns-else-self c =
    let x = c.args.self.now in
    sym (ap first (wait_none x.replies x.count x.sent x.whole x.few c.if-self.false))
