-- What a store counts of a part, by its rows.
use Rattle.std.proofs.Common.{◌≡◌, List, length, refl, sym, ap, ◌∙◌}
use Rattle.spool.specs.Lots.{part_in}
use Rattle.spool.specs.Rules.{part_of}
use Rattle.spool.specs.declared.entry.Part.{Part}
use Rattle.spool.proofs.Lots.{part-length}
use Rattle.slots.specs.Stores.{entries, held_of, lot_of, view}
use Rattle.slots.specs.Tables.{used_rows}
use Rattle.slots.specs.declared.row.SlotRow.{SlotRow}
use Rattle.slots.specs.declared.store.SlotStore.{SlotStore}

pub count_told : (s : SlotStore) (part : Part) (rows xs : List SlotRow) → xs ≡ part_in part s.lot rows → rows ≡ used_rows s.table → length xs ≡ length (part_of part (held_of s) (lot_of s))
count_told s part rows xs e r =
    ap length e ∙ ap (λ v. length (part_in part s.lot v)) r ∙ sym (part-length (view s.octets.items s.size) part s.lot (entries s) (used_rows s.table) refl)
