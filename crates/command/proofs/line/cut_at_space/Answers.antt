use Rattle.std.proofs.Common.{take, ap, ◌∙◌, rules, tests}
use Rattle.std.proofs.lemmas.List.Folds.{length-prefix_len}
use Rattle.std.proofs.lemmas.Iterator.{YieldsList-from_slice}
use Rattle.std.proofs.lemmas.Iterator.Consumers.{count_from_yields_List}
use Rattle.std.proofs.lemmas.Iterator.Search.{YieldsList-from_take_while}
use Rattle.command.specs.Lines.{not_space}
use Rattle.command.proofs.line.cut_at_space.Goals as goal

pub returns-clause-word : goal.returns-clause-word
returns-clause-word c =
    let s = c.args.s.now in
    let n = count_from_yields_List c.take_while.result c.count-at.result c.count-at.ensures.ran
    (YieldsList-from_take_while _ not_space (YieldsList-from_slice s cc) c.take_while.ensures.closure c.take_while.ensures.done (λ x b q k. search (rules, tests))) in
    ap (λ k. take k s) (n ∙ length-prefix_len not_space s)
