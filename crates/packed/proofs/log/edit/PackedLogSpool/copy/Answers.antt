use Rattle.std.proofs.Common.{◌≡◌, ℕ, List, ◌++◌, take, drop, length, ap, ◌∙◌, arith}
use Rattle.spool.specs.declared.entry.Part.TheVariants.{Held}
use Rattle.spool.proofs.Lots.{absent_answer, absent_buffer, asked, done_answer, done_buffer, found, short_answer, short_buffer}
use Rattle.spool.proofs.Told.{told_err}
use Rattle.packed.specs.Meaning.{entries_of, rows_of}
use Rattle.packed.specs.Logs.{entries_by_rows, entry_of, known}
use Rattle.packed.proofs.log.edit.PackedLogSpool.copy.Goals as goal

-- The octets of a payload, by where they begin and how many they are.
window : (xs : List ℕ) (o l from n : ℕ) → from ≡ o → n ≡ l → take n (drop from xs) ≡ take l (drop o xs)
window xs o l from n a b = ap (λ v. take v (drop from xs)) b ∙ ap (λ v. take l (drop v xs)) a

pub returns-in_err-row-clause-answer : goal.returns-in_err-row-clause-answer
returns-in_err-row-clause-answer c =
    let s = c.args.self.now in
    told_err c.from_residual.result c.in_err-row.field-0.0 c.from_residual.ensures.0 c.from_residual.ensures.1
    ∙ absent_answer (entry_of s) s.lot (entries_of s) (rows_of s) (entries_by_rows s) c.args.at c.args.buffer.now _
    (c.in_err-row.ensures ∙ asked Held s.lot c.args.at c.entry_rows.result.now (rows_of s) c.entry_rows.ensures)

pub returns-in_err-row-clause-buffer : goal.returns-in_err-row-clause-buffer
returns-in_err-row-clause-buffer c =
    let s = c.args.self.now in
    absent_buffer (entry_of s) s.lot (entries_of s) (rows_of s) (entries_by_rows s) c.args.at c.args.buffer.now _
    (c.in_err-row.ensures ∙ asked Held s.lot c.args.at c.entry_rows.result.now (rows_of s) c.entry_rows.ensures)

pub returns-then-row-buffer-clause-answer : goal.returns-then-row-buffer-clause-answer
returns-then-row-buffer-clause-answer c =
    let s = c.args.self.now in
    let n = found Held s.lot c.args.at c.entry_rows.result.now (rows_of s) c.entry_rows.ensures c.in_ok-row.row c.in_ok-row.ensures in
    short_answer (entry_of s) s.lot (entries_of s) (rows_of s) (entries_by_rows s) c.args.at c.args.buffer.now c.in_ok-row.row n c.in_ok-row.row.length (known Held s c.args.at c.in_ok-row.row n).long c.if-row-buffer.true

pub returns-then-row-buffer-clause-buffer : goal.returns-then-row-buffer-clause-buffer
returns-then-row-buffer-clause-buffer c =
    let s = c.args.self.now in
    let n = found Held s.lot c.args.at c.entry_rows.result.now (rows_of s) c.entry_rows.ensures c.in_ok-row.row c.in_ok-row.ensures in
    short_buffer (entry_of s) s.lot (entries_of s) (rows_of s) (entries_by_rows s) c.args.at c.args.buffer.now c.in_ok-row.row n c.in_ok-row.row.length (known Held s c.args.at c.in_ok-row.row n).long c.if-row-buffer.true

pub overflow_add-payload : goal.overflow_add-payload
overflow_add-payload c =
    let s = c.args.self.now in
    omega (arith, (known Held s c.args.at c.in_ok-row.row (found Held s.lot c.args.at c.entry_rows.result.now (rows_of s) c.entry_rows.ensures c.in_ok-row.row c.in_ok-row.ensures)).ends_in, s.octets_fit, s.octets_high)

pub slice_bounds-payload-end : goal.slice_bounds-payload-end
slice_bounds-payload-end c =
    let s = c.args.self.now in
    omega (arith, (known Held s c.args.at c.in_ok-row.row (found Held s.lot c.args.at c.entry_rows.result.now (rows_of s) c.entry_rows.ensures c.in_ok-row.row c.in_ok-row.ensures)).ends_in, s.octets_fit, ap length c.deref.ensures.value)

pub returns-clause-answer : goal.returns-clause-answer
returns-clause-answer c =
    let s = c.args.self.now in
    let n = found Held s.lot c.args.at c.entry_rows.result.now (rows_of s) c.entry_rows.ensures c.in_ok-row.row c.in_ok-row.ensures in
    done_answer (entry_of s) s.lot (entries_of s) (rows_of s) (entries_by_rows s) c.args.at c.args.buffer.now c.in_ok-row.row n c.in_ok-row.row.length (known Held s c.args.at c.in_ok-row.row n).long c.if-row-buffer.false

pub returns-clause-buffer : goal.returns-clause-buffer
returns-clause-buffer c =
    let s = c.args.self.now in
    let n = found Held s.lot c.args.at c.entry_rows.result.now (rows_of s) c.entry_rows.ensures c.in_ok-row.row c.in_ok-row.ensures in
    let o = c.in_ok-row.row.offset in
    let l = c.in_ok-row.row.length in
    ap (λ v. v ++ drop l c.args.buffer.now) (c.copy_from_slice.ensures.after ∙ window c.deref.result.now o l _ _ (omega arith) (omega arith) ∙ ap (λ v. take l (drop o v)) c.deref.ensures.value)
    ∙ done_buffer (entry_of s) s.lot (entries_of s) (rows_of s) (entries_by_rows s) c.args.at c.args.buffer.now c.in_ok-row.row n l (known Held s c.args.at c.in_ok-row.row n).long c.if-row-buffer.false
