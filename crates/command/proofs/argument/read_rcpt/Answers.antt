use Rattle.std.proofs.Common.{◌≡◌, ℕ, List, Err, Some, sym, ◌∙◌, subst, rules}
use Rattle.paths.specs.Envelopes.{ForwardAt}
use Rattle.address.specs.Parts.{Only}
use Rattle.command.specs.Arguments.{rcpt_syntax}
use Rattle.command.specs.Faults.{verdict}
use Rattle.command.specs.Parameters.{Behind, knows_none}
use Rattle.command.proofs.Readings.{rcpt_only, rcpt_refused, rest_is}
use Rattle.command.proofs.argument.read_rcpt.Goals as goal

pub returns-in_err-rcpt_parameters : goal.returns-in_err-rcpt_parameters
returns-in_err-rcpt_parameters c =
    let xs = c.args.argument.now in
    let path = c.in_ok-path.path in
    let s : c.strip_word.result ≡ Some c.in_ok-route.route = search rules in
    let r = rw s at c.strip_word.ensures in
    let only = subst (λ (v : List ℕ). Only (ForwardAt v) path) r.1 c.in_ok-path.ensures in
    let e = rest_is rcpt_syntax xs c.in_ok-route.route.now c.behind.result.now path c.end.result r.1 c.behind.ensures c.end.ensures in
    let v = verdict c.in_err-rcpt_parameters.field-0.0 in
    let f : c.from_residual-in_err-rcpt_parameters.result ≡ Err c.in_err-rcpt_parameters.field-0.0 = search rules in
    rw f (rcpt_refused xs r.0 path only v (subst (λ (w : List ℕ). Behind knows_none w v) e c.in_err-rcpt_parameters.ensures))

pub returns : goal.returns
returns c =
    let xs = c.args.argument.now in
    let path = c.in_ok-path.path in
    let s : c.strip_word.result ≡ Some c.in_ok-route.route = search rules in
    let r = rw s at c.strip_word.ensures in
    let only = subst (λ (v : List ℕ). Only (ForwardAt v) path) r.1 c.in_ok-path.ensures in
    let e = rest_is rcpt_syntax xs c.in_ok-route.route.now c.behind.result.now path c.end.result r.1 c.behind.ensures c.end.ensures in
    rcpt_only xs r.0 path only (sym e ∙ c.in_ok-rcpt_parameters.ensures)
