use Rattle.std.proofs.Common.{sym, arith}
use Rattle.std.proofs.lemmas.List.{length-take-le}
use Rattle.std.proofs.lemmas.Bool.{true≢false}
use Rattle.spool.proofs.Fronts.{remove-fits, remove_after, gap_closed}
use Rattle.spool.proofs.list.OrderedList.remove_run.Goals as goal

pub returns : goal.returns
returns g c =
    let xs = c.args.memory.now in
    let n = c.min-count.result in
    record {
      answer = remove-fits xs c.args.self.now.count n c.args.at c.args.by c.min-count.ensures (omega arith);
      after = remove_after xs c.args.self.now.count n c.args.at c.args.by c.min-count.ensures _ (omega arith) (gap_closed xs _ c.args.at c.args.by n (omega arith) (omega arith) c.copy_within.ensures.after);
      count = λ _. sym (length-take-le _ _ (omega arith));
      refused = λ h. absurd (true≢false h);
    }
