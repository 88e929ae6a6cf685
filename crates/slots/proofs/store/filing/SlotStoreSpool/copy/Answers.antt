use Rattle.std.proofs.Common.{◌≡◌, ◌+◌, ◌-◌, ◌*◌, ◌++◌, take, drop, length, refl, ap, ◌∙◌, arith}
use Rattle.spool.specs.declared.entry.Part.TheVariants.{Held}
use Rattle.spool.proofs.Lots.{absent_answer, absent_buffer, asked, done_answer, done_buffer, found, short_answer, short_buffer}
use Rattle.spool.proofs.Told.{told_err}
use Rattle.slots.specs.Stores.{entries, view}
use Rattle.slots.specs.Tables.{used_rows}
use Rattle.slots.specs.Holdings.{lies_in}
use Rattle.slots.proofs.store.filing.SlotStoreSpool.copy.Goals as goal

pub returns-in_err-row-clause-answer : goal.returns-in_err-row-clause-answer
returns-in_err-row-clause-answer c =
    let s = c.args.self.now in
    told_err c.from_residual.result c.in_err-row.field-0.0 c.from_residual.ensures.0 c.from_residual.ensures.1
    ∙ absent_answer (view s.octets.items s.size) s.lot (entries s) (used_rows s.table) refl c.args.at c.args.buffer.now _
    (c.in_err-row.ensures ∙ asked Held s.lot c.args.at c.rows.result.now (used_rows s.table) c.rows.ensures)

pub returns-in_err-row-clause-buffer : goal.returns-in_err-row-clause-buffer
returns-in_err-row-clause-buffer c =
    let s = c.args.self.now in
    absent_buffer (view s.octets.items s.size) s.lot (entries s) (used_rows s.table) refl c.args.at c.args.buffer.now _
    (c.in_err-row.ensures ∙ asked Held s.lot c.args.at c.rows.result.now (used_rows s.table) c.rows.ensures)

pub returns-then-row-buffer-clause-answer : goal.returns-then-row-buffer-clause-answer
returns-then-row-buffer-clause-answer c =
    let s = c.args.self.now in
    let n = found Held s.lot c.args.at c.rows.result.now (used_rows s.table) c.rows.ensures c.in_ok-row.row c.in_ok-row.ensures in
    short_answer (view s.octets.items s.size) s.lot (entries s) (used_rows s.table) refl c.args.at c.args.buffer.now c.in_ok-row.row n c.in_ok-row.row.length (lies_in Held s c.args.at c.in_ok-row.row n).long c.if-row-buffer.true

pub returns-then-row-buffer-clause-buffer : goal.returns-then-row-buffer-clause-buffer
returns-then-row-buffer-clause-buffer c =
    let s = c.args.self.now in
    let n = found Held s.lot c.args.at c.rows.result.now (used_rows s.table) c.rows.ensures c.in_ok-row.row c.in_ok-row.ensures in
    short_buffer (view s.octets.items s.size) s.lot (entries s) (used_rows s.table) refl c.args.at c.args.buffer.now c.in_ok-row.row n c.in_ok-row.row.length (lies_in Held s c.args.at c.in_ok-row.row n).long c.if-row-buffer.true

pub overflow_mul-from : goal.overflow_mul-from
overflow_mul-from c =
    let s = c.args.self.now in
    omega (arith, (lies_in Held s c.args.at c.in_ok-row.row (found Held s.lot c.args.at c.rows.result.now (used_rows s.table) c.rows.ensures c.in_ok-row.row c.in_ok-row.ensures)).ends, s.octets.ok.0, s.octets.small)

pub overflow_add-from : goal.overflow_add-from
overflow_add-from c =
    let s = c.args.self.now in
    omega (arith, (lies_in Held s c.args.at c.in_ok-row.row (found Held s.lot c.args.at c.rows.result.now (used_rows s.table) c.rows.ensures c.in_ok-row.row c.in_ok-row.ensures)).ends, s.octets.ok.0, s.octets.small)

pub slice_bounds-copy_from_slice-end-3 : goal.slice_bounds-copy_from_slice-end-3
slice_bounds-copy_from_slice-end-3 c =
    let s = c.args.self.now in
    omega (arith, (lies_in Held s c.args.at c.in_ok-row.row (found Held s.lot c.args.at c.rows.result.now (used_rows s.table) c.rows.ensures c.in_ok-row.row c.in_ok-row.ensures)).ends, ap length c.deref.ensures.value)

pub returns-clause-answer : goal.returns-clause-answer
returns-clause-answer c =
    let s = c.args.self.now in
    let n = found Held s.lot c.args.at c.rows.result.now (used_rows s.table) c.rows.ensures c.in_ok-row.row c.in_ok-row.ensures in
    done_answer (view s.octets.items s.size) s.lot (entries s) (used_rows s.table) refl c.args.at c.args.buffer.now c.in_ok-row.row n c.in_ok-row.row.length (lies_in Held s c.args.at c.in_ok-row.row n).long c.if-row-buffer.false

pub returns-clause-buffer : goal.returns-clause-buffer
returns-clause-buffer c =
    let s = c.args.self.now in
    let n = found Held s.lot c.args.at c.rows.result.now (used_rows s.table) c.rows.ensures c.in_ok-row.row c.in_ok-row.ensures in
    let o = c.in_ok-row.row.slot * s.size in
    let l = c.in_ok-row.row.length in
    let k : o + l - o ≡ l = omega arith in
    ap (λ v. v ++ drop l c.args.buffer.now) (c.copy_from_slice.ensures.after ∙ ap (λ n. take n (drop o c.deref.result.now)) k ∙ ap (λ v. take l (drop o v)) c.deref.ensures.value)
    ∙ done_buffer (view s.octets.items s.size) s.lot (entries s) (used_rows s.table) refl c.args.at c.args.buffer.now c.in_ok-row.row n l (lies_in Held s c.args.at c.in_ok-row.row n).long c.if-row-buffer.false
