use Rattle.std.proofs.Common.{◌≡◌, ℕ, ◌+◌, min, set, sym, subst, arith}
use Rattle.ends.specs.Ledgers.{Collected, counted, counts_of, most_collected}
use Rattle.ends.proofs.Counting.{collected_one}
use Rattle.ends.proofs.ledger.Ledger.note_collected.Goals as goal

pub returns-clause-counts : goal.returns-clause-counts
returns-clause-counts c =
    let l = c.args.self.now in
    let m = c.args.mailbox in
    let v : c.min.result + 1 ≡ min ((counted l m).collected + 1) most_collected = omega arith in
    subst (λ (x : ℕ). Collected l (record { counts = set l.counts m (record { filed = counts_of l m; collected = x }) }) m) (sym v) (collected_one l m (omega arith))
