use Rattle.spool.specs.Entries.{Entry}
use Rattle.quota.proofs.Keeps.{kept_staged}
use Rattle.quota.proofs.layer.QuotaSpool.stage.Goals as goal

pub invariant_of-self : goal.invariant_of-self
invariant_of-self g c =
    let e : Entry = record { mailbox = c.args.mailbox; payload = c.args.payload.now } in
    let s = c.stage.ensures in
    record { kept = kept_staged c.args.self.now c.stage.new.self e c.if-not-lot_is_open.ensures c.in_ok-room.ensures s.held s.lot }
