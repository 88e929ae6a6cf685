use Rattle.std.proofs.Common.{rules, ◌≡◌, ◌∷◌, true, get_or, drop, sym, ap, ◌∙◌, arith}
use Rattle.std.proofs.lemmas.List.{drop_more, take_rest}
use Rattle.address.specs.Classes.{qtext, printable}
use Rattle.address.specs.Parts.{bare, escaped}
use Rattle.address.proofs.parts.quotable.Goals as goal

pub returns-in-len1-up : goal.returns-in-len1-up
returns-in-len1-up c =
    let s = c.args.s.now in
    let q : qtext (get_or s 0 0) ≡ true = search rules in
    (bare (get_or s 0 0), q, drop_more s 0 0 (omega (arith, c.in-len1-up.len_at_least)) ∙ ap (λ v. get_or s 0 0 ∷ v) (sym (take_rest s 1)))

pub returns-in-92 : goal.returns-in-92
returns-in-92 c =
    let s = c.args.s.now in
    let q : printable (get_or s 1 0) ≡ true = search rules in
    let e : get_or s 0 0 ≡ 92 = search rules in
    let one = drop_more s 0 0 (omega (arith, c.in-92.len_at_least)) in
    let two = drop_more s 1 0 (omega (arith, c.in-92.len_at_least)) in
    (escaped (get_or s 1 0), q, one ∙ ap (λ x. x ∷ drop 1 s) e ∙ ap (λ v. 92 ∷ v) (two ∙ ap (λ v. get_or s 1 0 ∷ v) (sym (take_rest s 2))))
