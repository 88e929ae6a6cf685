use Rattle.std.proofs.Common.{◌≡◌, Some, length, ap, ◌∙◌}
use Rattle.spool.specs.Lots.{filed_in}
use Rattle.spool.proofs.Lots.{held_opened, lot_opened}
use Rattle.slots.specs.Stores.{entries}
use Rattle.slots.specs.Tables.{used_rows}
use Rattle.slots.specs.Holdings.{entries-length}
use Rattle.slots.proofs.store.filing.SlotStoreSpool.open_lot.Goals as goal
use Rattle.slots.proofs.store.filing.SlotStoreSpool.open_lot.Goals.{After-open}

begun : (c : After-open) → c.open.new.self.held ≡ Some (filed_in c.args.self.now.lot (length (used_rows c.args.self.now.table)))
begun c = c.open.ensures.after ∙ ap (λ n. Some (filed_in c.args.self.now.lot n)) c.len.ensures

pub returns-clause-held : goal.returns-clause-held
returns-clause-held c =
    let s = c.args.self.now in
    held_opened s.lot (entries s) (length (used_rows s.table)) (entries-length s) c.open.new.self (begun (goal.at.returns-clause-held c).After-open)

pub returns-clause-lot : goal.returns-clause-lot
returns-clause-lot c =
    let s = c.args.self.now in
    lot_opened s.lot c.open.new.self (entries s) (length (used_rows s.table)) (entries-length s) (begun (goal.at.returns-clause-lot c).After-open)
