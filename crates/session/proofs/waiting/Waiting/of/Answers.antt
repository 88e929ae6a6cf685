use Rattle.std.proofs.Common.{◌≡◌, min, length, sym, ap, ◌∙◌, rules}
use Rattle.spool.proofs.Fronts.{front_is}
use Rattle.session.proofs.waiting.Waiting.of.Goals as goal

pub returns : goal.returns
returns c =
    let n : length c.args.replies ≡ 100 = search rules in
    front_is c.args.replies c.args.count c.min-count.result (c.min-count.ensures ∙ ap (min c.args.count) (sym n))
