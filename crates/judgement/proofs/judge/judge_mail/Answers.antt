use Rattle.std.proofs.Common.{◌≡◌, refl, Err, rules}
use Rattle.judgement.specs.Judgements.{bad_mail, refusal, reply_to}
use Rattle.judgement.proofs.judge.judge_mail.Goals as goal

pub returns-in_err-line : goal.returns-in_err-line
returns-in_err-line c =
    let f = c.in_err-line.field-0.0 in
    let e : c.from_residual.result ≡ Err (refusal (reply_to f)) = search rules in
    bad_mail (reply_to f) (record { fault = f; why = c.in_err-line.ensures; tells = refl }) e
