use Rattle.std.proofs.Common.{◌≡◌, Some, length, take, ap, ◌∙◌}
use Rattle.spool.specs.Lots.{filed_in}
use Rattle.spool.proofs.Lots.{held_opened, lot_opened}
use Rattle.packed.specs.Meaning.{entries_of}
use Rattle.packed.specs.Logs.{entries-length, rows-length}
use Rattle.packed.proofs.log.edit.PackedLogSpool.open_lot.Goals as goal
use Rattle.packed.proofs.log.edit.PackedLogSpool.open_lot.Goals.{After-open}

begun : (c : After-open) → c.open.new.self.held ≡ Some (filed_in c.args.self.now.lot c.args.self.now.entries.count)
begun c =
    let s = c.args.self.now in
    c.open.ensures.after ∙ ap (λ n. Some (filed_in s.lot n)) (c.len.ensures ∙ ap (λ v. length (take s.entries.count v)) c.as_slice.ensures.value ∙ rows-length s)

pub returns-clause-held : goal.returns-clause-held
returns-clause-held c = let s = c.args.self.now in held_opened s.lot (entries_of s) s.entries.count (entries-length s) c.open.new.self (begun (goal.at.returns-clause-held c).After-open)

pub returns-clause-lot : goal.returns-clause-lot
returns-clause-lot c = let s = c.args.self.now in lot_opened s.lot c.open.new.self (entries_of s) s.entries.count (entries-length s) (begun (goal.at.returns-clause-lot c).After-open)
