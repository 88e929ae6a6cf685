use Rattle.std.proofs.Common.{drop, sym, ap, ◌∙◌}
use Rattle.session.proofs.Queuing.{wait_none, wait_passed}
use Rattle.session.proofs.waiting.Waiting.pass.Goals as goal

pub returns-then-self : goal.returns-then-self
returns-then-self c =
    let x = c.args.self.now in
    wait_passed x.replies x.count x.sent x.whole x.few

pub returns-else-self : goal.returns-else-self
returns-else-self c =
    let x = c.args.self.now in
    let none = wait_none x.replies x.count x.sent x.whole x.few c.if-self.false in
    none ∙ sym (ap (drop 1) none)
