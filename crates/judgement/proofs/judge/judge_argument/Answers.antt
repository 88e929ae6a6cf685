use Rattle.std.proofs.Common.{refl, inr}
use Rattle.judgement.proofs.judge.judge_argument.Goals as goal

pub returns-in-Mail : goal.returns-in-Mail
returns-in-Mail c = rw c.in-Mail.is (inr ((λ b. absurd (cc b.0)), c.judge_mail.ensures))

pub returns-in-Rcpt : goal.returns-in-Rcpt
returns-in-Rcpt c = rw c.in-Rcpt.is (inr ((λ b. absurd (cc b.0)), c.judge_rcpt.ensures))

pub returns-in-Some : goal.returns-in-Some
returns-in-Some c = rw c.in-Bdat.is (inr ((λ b. b.1 c.in-Some.chunk c.in-Some.ensures.holds), (c.in-Some.chunk, c.in-Some.ensures, refl)))
