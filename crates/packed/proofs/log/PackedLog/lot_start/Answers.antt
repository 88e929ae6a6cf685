use Rattle.std.proofs.Common.{◌≡◌, slice_index_or, take, drop, Some, sym, ap, ◌∙◌, add-zero, zero-add, arith}
use Rattle.std.specs.List.{slice_get}
use Rattle.std.proofs.lemmas.Option.{slice_get-get_or}
use Rattle.spool.specs.declared.entry.Part.TheVariants.{Staged}
use Rattle.spool.specs.Lots.{part_in}
use Rattle.spool.proofs.Lots.{held_is, staged_is}
use Rattle.spool.proofs.Places.{nth_drop}
use Rattle.packed.specs.Meaning.{filed_of, rows_of}
use Rattle.packed.specs.Packing.{total}
use Rattle.packed.specs.Cuts.{offset_nth}
use Rattle.packed.specs.Logs.{rows-length}
use Rattle.packed.specs.declared.row.LogRow.{LogRow}
use Rattle.packed.proofs.log.PackedLog.lot_start.Goals as goal

pub returns-in-len1-up : goal.returns-in-len1-up
returns-in-len1-up c =
    let s = c.args.self.now in
    let d : LogRow = record { offset = 0; length = 0; mailbox = 0 } in
    let f = filed_of s in
    let r = slice_index_or c.part.result.now 0 d in
    let n : slice_get (drop f (rows_of s)) 0 ≡ Some r =
    ap (λ v. slice_get v 0) (sym (staged_is s.lot (rows_of s) s.entries.count (rows-length s)) ∙ sym (ap (part_in Staged s.lot) c.entry_rows.ensures) ∙ sym c.part.ensures)
    ∙ slice_get-get_or c.part.result.now 0 d (omega arith) in
    offset_nth 0 (rows_of s) f r s.no_gaps (ap (slice_get (rows_of s)) (sym (add-zero f)) ∙ sym (nth_drop f (rows_of s) 0) ∙ n)
    ∙ zero-add (total (take f (rows_of s)))
    ∙ ap total (sym (held_is s.lot (rows_of s) s.entries.count (rows-length s)))
