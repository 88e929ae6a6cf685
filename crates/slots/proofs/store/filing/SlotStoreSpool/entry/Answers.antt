use Rattle.std.proofs.Common.{refl, sym, ap, ◌∙◌}
use Rattle.spool.proofs.Lots.{asked, entry_told}
use Rattle.slots.specs.Stores.{entries, view}
use Rattle.slots.specs.Tables.{used_rows}
use Rattle.slots.specs.Slots.{told_by}
use Rattle.slots.specs.Holdings.{lies_in}
use Rattle.slots.proofs.store.filing.SlotStoreSpool.entry.Goals as goal

pub returns : goal.returns
returns c =
    let s = c.args.self.now in
    let part = c.args.part in
    let at = c.args.at in
    entry_told (view s.octets.items s.size) part s.lot (entries s) (used_rows s.table) refl at told_by
    (λ r n. ap (λ w. record { mailbox = r.mailbox; length = w }) (sym (lies_in part s at r n).long))
    c.entry.result c.map.result (c.entry.ensures ∙ asked part s.lot at c.rows.result.now (used_rows s.table) c.rows.ensures) c.map.ensures.cases
