use Rattle.std.proofs.Common.{◌≡◌, ◌+◌, ◌-◌, take, drop, ap, ◌∙◌, slice_index, arith}
use Rattle.directory.specs.Fitting.{cut-before, cut-behind, cut_split}
use Rattle.directory.proofs.Listed.{last_found, last_nowhere}
use Rattle.directory.proofs.address_list.cut.Goals as goal

pub returns-in-Some-clause-before : goal.returns-in-Some-clause-before
returns-in-Some-clause-before c =
    let e = c.in-Some.ensures in
    let n = last_found c.args.s.now c.in-Some.at e.0 e.1 e.2 in
    grind (arith, cut-before c.args.s.now (c.in-Some.at + 1) n)

pub returns-in-Some-clause-behind : goal.returns-in-Some-clause-behind
returns-in-Some-clause-behind c =
    let e = c.in-Some.ensures in
    cut-behind c.args.s.now (c.in-Some.at + 1) (last_found c.args.s.now c.in-Some.at e.0 e.1 e.2)

pub returns-in-Some-clause-split : goal.returns-in-Some-clause-split
returns-in-Some-clause-split c =
    let s = c.args.s.now in
    let at = c.in-Some.at in
    let e = c.in-Some.ensures in
    let n = last_found c.args.s.now c.in-Some.at e.0 e.1 e.2 in
    let z : at + 1 - 1 ≡ at = omega arith in
    λ _. cut_split s (at + 1) n (λ h. absurd (omega (arith, h))) (omega (arith, e.0)) (ap (λ k. slice_index s k) z ∙ e.1)

pub returns-in-None-clause-before : goal.returns-in-None-clause-before
returns-in-None-clause-before c = ap (λ n. take (n - 1) c.args.s.now) (last_nowhere c.args.s.now c.in-None.ensures)

pub returns-in-None-clause-behind : goal.returns-in-None-clause-behind
returns-in-None-clause-behind c = ap (λ n. drop n c.args.s.now) (last_nowhere c.args.s.now c.in-None.ensures)
