use Rattle.session.proofs.Queuing.{wait_count}
use Rattle.session.proofs.waiting.Waiting.len.Goals as goal

pub returns : goal.returns
returns c =
    let x = c.args.self.now in
    wait_count x.replies x.count x.sent x.whole x.few
