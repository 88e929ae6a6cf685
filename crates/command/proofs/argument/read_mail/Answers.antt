use Rattle.std.proofs.Common.{◌≡◌, ℕ, List, Err, Some, subst, rules}
use Rattle.paths.specs.Envelopes.{ReverseAt}
use Rattle.address.specs.Parts.{Only}
use Rattle.command.specs.Arguments.{mail_syntax}
use Rattle.command.specs.Faults.{verdict}
use Rattle.command.specs.Parameters.{Behind, Sized, size_only}
use Rattle.command.proofs.Readings.{mail_only, mail_refused, rest_is}
use Rattle.command.proofs.argument.read_mail.Goals as goal

pub returns-in_err-size : goal.returns-in_err-size
returns-in_err-size c =
    let xs = c.args.argument.now in
    let path = c.in_ok-path.path in
    let s : c.strip_word.result ≡ Some c.in_ok-route.route = search rules in
    let r = rw s at c.strip_word.ensures in
    let only = subst (λ (v : List ℕ). Only (ReverseAt v) path) r.1 c.in_ok-path.ensures in
    let e = rest_is mail_syntax xs c.in_ok-route.route.now c.behind.result.now path c.end.result r.1 c.behind.ensures c.end.ensures in
    let v = verdict c.in_err-size.field-0.0 in
    let f : c.from_residual-in_err-size.result ≡ Err c.in_err-size.field-0.0 = search rules in
    rw f (mail_refused xs r.0 path only v (subst (λ (w : List ℕ). Behind size_only w v) e c.in_err-size.ensures))

pub returns : goal.returns
returns c =
    let xs = c.args.argument.now in
    let path = c.in_ok-path.path in
    let size = c.in_ok-size.size in
    let s : c.strip_word.result ≡ Some c.in_ok-route.route = search rules in
    let r = rw s at c.strip_word.ensures in
    let only = subst (λ (v : List ℕ). Only (ReverseAt v) path) r.1 c.in_ok-path.ensures in
    let e = rest_is mail_syntax xs c.in_ok-route.route.now c.behind.result.now path c.end.result r.1 c.behind.ensures c.end.ensures in
    mail_only xs r.0 path only size (subst (λ (v : List ℕ). Sized v size) e c.in_ok-size.ensures)
