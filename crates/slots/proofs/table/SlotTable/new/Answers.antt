use Rattle.std.proofs.Common.{cond, eqb, length, ap, arith}
use Rattle.std.proofs.lemmas.List.{length_push}
use Rattle.std.proofs.lemmas.List.Sums.{sum_by_push}
use Rattle.spool.specs.Lists.{records}
use Rattle.slots.specs.Slots.{spares}
use Rattle.slots.proofs.Moves.{append_in, once_more}
use Rattle.slots.proofs.table.SlotTable.new.Goals as goal

pub loop-slot-preserved : goal.loop-slot-preserved
loop-slot-preserved c =
    let n = c.loop-slot.slot in
    let fs = records c.loop-slot.free c.loop-slot.numbers in
    let e = append_in fs _ (length c.loop-slot.numbers) n (omega arith) c.append.ensures.after in (
      omega arith,
      omega (arith, ap length e, length_push fs n),
      (λ slot. omega (arith, ap (spares slot) e, sum_by_push (λ x. cond (eqb x slot) 1 0) fs n, c.loop-slot.invariant.2 slot, once_more slot n)),
    )
