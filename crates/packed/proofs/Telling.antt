-- What a log counts and tells of a part, by its rows.
use Rattle.std.proofs.Common.{◌≡◌, ℕ, List, length, Err, Result, sym, ap, ◌∙◌}
use Rattle.std.specs.List.{slice_get}
use Rattle.std.specs.Result.{MatchResult, IsOkAnd}
use Rattle.refusals.specs.Refusals.{told}
use Rattle.refusals.specs.declared.refusal.Refusal.{Refusal}
use Rattle.spool.specs.Lists.{present}
use Rattle.spool.specs.Lots.{part_in}
use Rattle.spool.specs.Rules.{part_of, tells}
use Rattle.spool.specs.declared.entry.Part.{Part}
use Rattle.spool.specs.declared.entry.Summary.{Summary}
use Rattle.spool.proofs.Lots.{asked, entry_told, part-length}
use Rattle.packed.specs.Meaning.{entries_of, held_of, lot_of, rows_of}
use Rattle.packed.specs.Packing.{told_by}
use Rattle.packed.specs.Logs.{entries_by_rows, entry_of, known}
use Rattle.packed.specs.declared.log.PackedLog.{PackedLog}
use Rattle.packed.specs.declared.row.LogRow.{LogRow}

pub count_told : (s : PackedLog) (part : Part) (rows xs : List LogRow) → xs ≡ part_in part s.lot rows → rows ≡ rows_of s → length xs ≡ length (part_of part (held_of s) (lot_of s))
count_told s part rows xs e r = ap length e ∙ ap (λ v. length (part_in part s.lot v)) r ∙ sym (part-length (entry_of s) part s.lot (entries_of s) (rows_of s) (entries_by_rows s))

-- An entry is told as the place that is asked for has it.
pub summary_told : (s : PackedLog) (part : Part) (at place : ℕ) (rows : List LogRow) (r : Result LogRow Refusal) (q : Result Summary Refusal) → place ≡ at →
    told r ≡ present (slice_get (part_in part s.lot rows) place) → rows ≡ rows_of s → MatchResult r (λ x. IsOkAnd q (λ v. v ≡ told_by x)) (λ e. q ≡ Err e) → told q ≡ tells (part_of part (held_of s) (lot_of s)) at
summary_told s part at place rows r q a h e k =
    entry_told (entry_of s) part s.lot (entries_of s) (rows_of s) (entries_by_rows s) at told_by (λ r n. ap (λ w. record { mailbox = r.mailbox; length = w }) (sym (known part s at r n).long))
    r q (h ∙ ap (λ v. present (slice_get (part_in part s.lot rows) v)) a ∙ asked part s.lot at rows (rows_of s) e) k
