use Rattle.std.proofs.Common.{◌≡◌, ◌-◌, length, get_or, arith}
use Rattle.std.specs.Vec.{with_items}
use Rattle.spool.specs.Lists.{records}
use Rattle.slots.specs.Tables.{slot_count, used_rows}
use Rattle.slots.specs.declared.row.SlotRow.{SlotRow}
use Rattle.slots.proofs.Moves.{moved_in, last_out, slots_kept, rows_in, whole_kept, apart_kept}
use Rattle.slots.proofs.table.SlotTable.claim.Goals as goal

pub invariant_of-self : goal.invariant_of-self
invariant_of-self c =
    let t = c.args.self.now in
    let n = c.len-last.result in
    let r : SlotRow = record { slot = get_or t.numbers (n - 1) 0; length = c.args.size; mailbox = c.args.mailbox } in
    let ys = c.as_mut_slice.result.now in
    let rs = c.append.new.memory in
    let k : length (with_items t.rows rs).items ≡ slot_count t = slots_kept t ys rs c.append.new.self c.as_mut_slice.ensures.value (omega arith) in
    let u = rows_in t ys rs c.append.new.self c.as_mut_slice.ensures.value (omega arith) r c.requires c.append.ensures.after in
    let f = last_out t.numbers t.free c.truncate.new.self n 0 c.len-last.ensures (omega (arith, t.whole, c.requires, c.len-last.ensures)) c.truncate.ensures in
    let us' = records c.append.new.self (with_items t.rows rs).items in
    let fs' = records c.truncate.new.self t.numbers in
    let m = moved_in (used_rows t) us' (records t.free t.numbers) fs' r u f in
    record {
      few = omega (arith, k, t.few);
      wide = t.wide;
      whole = whole_kept t us' fs' (length (with_items t.rows rs).items) m k;
      apart = apart_kept t us' fs' (length (with_items t.rows rs).items) m k;
    }
