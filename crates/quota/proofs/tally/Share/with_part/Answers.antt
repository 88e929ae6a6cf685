use Rattle.std.proofs.Common.{ℕ, ◌+◌, length, ap, arith}
use Rattle.std.proofs.lemmas.List.Sums.{sum_by-take-le}
use Rattle.spool.specs.declared.entry.Summary.{Summary}
use Rattle.spool.specs.Rules.{part_of}
use Rattle.quota.specs.Shares.{share}
use Rattle.quota.proofs.Counts.{counted, passed}
use Rattle.quota.proofs.tally.Share.with_part.Goals as goal
use Rattle.quota.proofs.tally.Share.with_part.Goals.{then-summary-mailbox, else-summary-mailbox}

pub overflow_add-self-then-summary-mailbox : goal.overflow_add-self-then-summary-mailbox
overflow_add-self-then-summary-mailbox g c =
    let es = part_of c.args.part (g.S.Spool.held c.args.below.now) (g.S.Spool.lot c.args.below.now) in
    omega (arith, counted (λ s. s.length) c.args.mailbox es c.loop-at.at c.in-Ok.summary c.in-Ok.ensures c.if-summary-mailbox.true, sum_by-take-le (share (λ e. length e.payload) c.args.mailbox) es (c.loop-at.at + 1))

pub loop-at-preserved : goal.loop-at-preserved
loop-at-preserved g c =
    let es = part_of c.args.part (g.S.Spool.held c.args.below.now) (g.S.Spool.lot c.args.below.now) in
    let s = c.in-Ok.summary in
    elim c.if-summary-mailbox.branch [
      | then-summary-mailbox w ↦
          let more = λ (f : Summary → ℕ). counted f c.args.mailbox es c.loop-at.at s c.in-Ok.ensures w.if-summary-mailbox.true in
          record { entries = omega (arith, more (λ s. 1), ap (λ v. v.entries) w.self-is); octets = omega (arith, more (λ s. s.length), ap (λ v. v.octets) w.self-is) }
      | else-summary-mailbox w ↦
          let more = λ (f : Summary → ℕ). passed f c.args.mailbox es c.loop-at.at s c.in-Ok.ensures w.if-summary-mailbox.false in
          record { entries = omega (arith, more (λ s. 1), ap (λ v. v.entries) w.self-is); octets = omega (arith, more (λ s. s.length), ap (λ v. v.octets) w.self-is) }
    ]
