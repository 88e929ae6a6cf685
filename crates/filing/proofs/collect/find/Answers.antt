use Rattle.std.proofs.Common.{◌≡◌, sym, ap, ◌∙◌}
use Rattle.spool.proofs.Told.{told-entry}
use Rattle.filing.proofs.Finding.{past-earliest, past-without, here_earliest, here_without}
use Rattle.filing.proofs.collect.find.Goals as goal

pub returns-then-summary-mailbox : goal.returns-then-summary-mailbox
returns-then-summary-mailbox g c =
    let h = g.S.Spool.held c.args.spool.now in
    let t = told-entry h c.loop-at.at c.in-Ok.summary c.in-Ok.ensures in
    let q : t.0.mailbox ≡ c.args.mailbox = ap (λ v. v.mailbox) (sym t.1.1) ∙ c.if-summary-mailbox.true in
    record {
      entry = t.0;
      first = c.loop-at.invariant.0 ∙ here_earliest c.args.mailbox h c.loop-at.at t.0 t.1.0 q;
      there = t.1.0;
      long = ap (λ v. v.length) t.1.1;
      rest = c.loop-at.invariant.1 ∙ here_without c.args.mailbox h c.loop-at.at t.0 t.1.0 q;
    }

pub loop-at-preserved : goal.loop-at-preserved
loop-at-preserved g c =
    let h = g.S.Spool.held c.args.spool.now in
    let t = told-entry h c.loop-at.at c.in-Ok.summary c.in-Ok.ensures in
    let ne : t.0.mailbox ≡ c.args.mailbox → ⊥ = λ q. c.if-summary-mailbox.false (ap (λ v. v.mailbox) t.1.1 ∙ q) in (
      c.loop-at.invariant.0 ∙ past-earliest c.args.mailbox h c.loop-at.at t.0 t.1.0 ne,
      c.loop-at.invariant.1 ∙ past-without c.args.mailbox h c.loop-at.at t.0 t.1.0 ne,
    )
