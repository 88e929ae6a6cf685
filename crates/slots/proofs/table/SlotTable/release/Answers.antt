use Rattle.std.proofs.Common.{◌≡◌, length, arith}
use Rattle.std.specs.Vec.{with_items}
use Rattle.spool.specs.Lists.{records}
use Rattle.slots.specs.Tables.{slot_count, used_rows}
use Rattle.slots.proofs.Moves.{append_in, moved_out, row_at, slots_kept, rows_out, whole_kept, apart_kept}
use Rattle.slots.proofs.table.SlotTable.release.Goals as goal

pub invariant_of-self : goal.invariant_of-self
invariant_of-self c =
    let t = c.args.self.now in
    let at = c.args.at in
    let r = c.index.result.now in
    let ys = c.as_mut_slice.result.now in
    let rs = c.remove.new.memory in
    let k : length (with_items t.rows rs).items ≡ slot_count t = slots_kept t ys rs c.remove.new.self c.as_mut_slice.ensures.value (omega arith) in
    let u = rows_out t ys rs c.remove.new.self c.as_mut_slice.ensures.value (omega arith) at c.requires c.remove.ensures.after in
    let us' = records c.remove.new.self (with_items t.rows rs).items in
    let fs' = records c.append.new.self c.append.new.memory in
    let f = append_in (records t.free t.numbers) fs' (length t.numbers) r.slot (omega (arith, t.few, t.wide, t.whole, c.requires)) c.append.ensures.after in
    let m = moved_out (used_rows t) us' (records t.free t.numbers) fs' at r c.requires (row_at t at r c.requires c.index.ensures) u f in
    record {
      few = omega (arith, k, t.few);
      wide = omega (arith, t.wide);
      whole = whole_kept t us' fs' (length (with_items t.rows rs).items) m k;
      apart = apart_kept t us' fs' (length (with_items t.rows rs).items) m k;
    }

pub returns-clause-rows : goal.returns-clause-rows
returns-clause-rows c =
    let t = c.args.self.now in
    rows_out t c.as_mut_slice.result.now c.remove.new.memory c.remove.new.self c.as_mut_slice.ensures.value (omega arith) c.args.at c.requires c.remove.ensures.after
