use Rattle.std.proofs.Common.{◌≡◌, refl, Err, rules}
use Rattle.judgement.specs.Judgements.{bad_rcpt, recipient, refusal, reply_to}
use Rattle.judgement.proofs.judge.judge_rcpt.Goals as goal

pub returns : goal.returns
returns c = recipient c.in_ok-line.line c.in_ok-line.ensures refl

pub returns-in_err-line : goal.returns-in_err-line
returns-in_err-line c =
    let f = c.in_err-line.field-0.0 in
    let e : c.from_residual.result ≡ Err (refusal (reply_to f)) = search rules in
    bad_rcpt (reply_to f) (record { fault = f; why = c.in_err-line.ensures; tells = refl }) e
