use Rattle.std.proofs.Common.{take, drop, ap, ◌∙◌, rules, tests}
use Rattle.std.specs.Char.{is_ascii_digit}
use Rattle.std.proofs.lemmas.List.Folds.{length-prefix_len}
use Rattle.std.proofs.lemmas.Iterator.{YieldsList-from_slice}
use Rattle.std.proofs.lemmas.Iterator.Consumers.{count_from_yields_List}
use Rattle.std.proofs.lemmas.Iterator.Search.{YieldsList-from_take_while}
use Rattle.command.proofs.numeral.cut_digits.Goals as goal

pub returns : goal.returns
returns c =
    let s = c.args.s.now in
    let n = count_from_yields_List c.take_while.result c.count.result c.count.ensures.ran
    (YieldsList-from_take_while _ is_ascii_digit (YieldsList-from_slice s cc) c.take_while.ensures.closure c.take_while.ensures.done (λ x b q k. search (rules, tests)))
    ∙ length-prefix_len is_ascii_digit s in
    record {
      digits = c.split_at.ensures.front ∙ ap (λ k. take k s) n;
      rest = c.split_at.ensures.back ∙ ap (λ k. drop k s) n;
    }
