use Rattle.std.proofs.Common.{◌≡◌, ℕ, ◌-◌, take, Some, Option, sym, ap, ◌∙◌, subst, arith}
use Rattle.std.specs.Option.{option_map}
use Rattle.judgement.specs.declared.phase.Kind.{Kind}
use Rattle.judgement.specs.declared.phase.Kind.TheVariants.{Smtp, Lmtp}
use Rattle.session.specs.Places.{mailboxes}
use Rattle.session.specs.Turns.{ends}
use Rattle.spool.proofs.Fronts.{front_is}
use Rattle.receiver.specs.Ending.{Settled}
use Rattle.receiver.proofs.Settlement.{settled_ended}
use Rattle.receiver.proofs.ending.settle.Goals as goal

pub returns-in-Smtp : goal.returns-in-Smtp
returns-in-Smtp g c =
    let area = c.args.area.now in
    let n = c.min.result in
    let rs = c.args.recipients.now in
    let l = c.args.ledger.now in
    let l' = c.end_smtp.new.ledger in
    let s = c.args.spool.now in
    let s' = c.end_smtp.new.spool in
    let cut : take (n - 0) area ≡ take c.in-Some.count area = ap (λ (k : ℕ). take k area) (let z : n - 0 ≡ n = omega arith in z) ∙ front_is area c.in-Some.count n c.min.ensures in
    let P : Option ℕ → Type 0 = λ o. Settled g.S.Spool c.args.kind l l' s s' (ends (mailboxes rs) (option_map (λ k. take k area) o)) c.end_smtp.result in
    let Q : Kind → Type 0 = λ k. Settled g.S.Spool k l l' s s' (ends (mailboxes rs) (option_map (λ k. take k area) (Some c.in-Some.count))) c.end_smtp.result in
    subst P (sym c.in-Some.is) (subst Q (sym c.in-Smtp.is) (settled_ended g.S.Spool l l' s s' Smtp rs (take c.in-Some.count area) (take (n - 0) area) c.end_smtp.result cut c.end_smtp.ensures))

pub returns-in-Lmtp : goal.returns-in-Lmtp
returns-in-Lmtp g c =
    let area = c.args.area.now in
    let n = c.min.result in
    let rs = c.args.recipients.now in
    let l = c.args.ledger.now in
    let l' = c.end_lmtp.new.ledger in
    let s = c.args.spool.now in
    let s' = c.end_lmtp.new.spool in
    let cut : take (n - 0) area ≡ take c.in-Some.count area = ap (λ (k : ℕ). take k area) (let z : n - 0 ≡ n = omega arith in z) ∙ front_is area c.in-Some.count n c.min.ensures in
    let P : Option ℕ → Type 0 = λ o. Settled g.S.Spool c.args.kind l l' s s' (ends (mailboxes rs) (option_map (λ k. take k area) o)) c.end_lmtp.result in
    let Q : Kind → Type 0 = λ k. Settled g.S.Spool k l l' s s' (ends (mailboxes rs) (option_map (λ k. take k area) (Some c.in-Some.count))) c.end_lmtp.result in
    subst P (sym c.in-Some.is) (subst Q (sym c.in-Lmtp.is) (settled_ended g.S.Spool l l' s s' Lmtp rs (take c.in-Some.count area) (take (n - 0) area) c.end_lmtp.result cut c.end_lmtp.ensures))
