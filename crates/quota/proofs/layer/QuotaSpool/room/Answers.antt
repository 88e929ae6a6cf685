use Rattle.std.proofs.Common.{rules, sym, ◌∙◌, arith}
use Rattle.refusals.specs.Refusals.{told}
use Rattle.quota.specs.Shares.{both}
use Rattle.quota.proofs.Rooms.{above_told, asks_below}
use Rattle.quota.proofs.layer.QuotaSpool.room.Goals as goal

pub returns : goal.returns
returns g c =
    let q = c.args.self.now in
    let r = g.S.Spool.room q.below c.args.mailbox c.args.size in
    sym (above_told _ (λ e d k. search rules) c.room.result c.map_err.result c.map_err.ensures.cases)
    ∙ asks_below q.limits (both (g.S.Spool.held q.below) (g.S.Spool.lot q.below)) c.args.mailbox c.args.size r c.if-mailbox-ge64.false
    (omega arith) (omega (arith, q.kept c.args.mailbox)) (told c.room.result) c.room.ensures
