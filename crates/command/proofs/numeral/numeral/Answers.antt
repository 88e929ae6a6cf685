use Rattle.std.proofs.Common.{refl, sym, ◌∙◌, rules, tests, arith}
use Rattle.std.specs.Char.{is_ascii_digit}
use Rattle.std.proofs.lemmas.Iterator.{YieldsList-from_slice}
use Rattle.std.proofs.lemmas.Iterator.Consumers.{fold_from_yields_List}
use Rattle.std.proofs.lemmas.Iterator.Search.{all_from_yields_List}
use Rattle.address.specs.Words.{AllIn}
use Rattle.command.specs.Numerals.{decimal_value}
use Rattle.command.proofs.Counts.{all_digits, keep, fold_keeps}
use Rattle.command.proofs.numeral.numeral.Goals as goal

pub returns : goal.returns
returns c =
    let s = c.args.s.now in
    let d : AllIn is_ascii_digit s = all_digits s (sym (all_from_yields_List is_ascii_digit _ _ c.all.result c.all.ensures.ran (YieldsList-from_slice s cc) (λ x b q k. search (rules, tests))) ∙ c.if-not-all.false) in
    let f = fold_from_yields_List _ keep 0 c.fold.result c.fold.ensures.ran (YieldsList-from_slice s cc) (λ a x b q k. search (rules, tests)) in
    (decimal_value s, record { some = grind arith; few = omega arith; digits = d; writes = refl }, f ∙ fold_keeps 0 s d)
