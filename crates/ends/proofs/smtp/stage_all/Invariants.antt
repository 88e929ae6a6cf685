use Rattle.std.proofs.Common.{◌≡◌, true, map, take, is_some}
use Rattle.ends.specs.Filing.{entry, StagedAll}
use Rattle.ends.specs.Ledgers.{counts_of}
use Rattle.ends.proofs.smtp.stage_all.Given as goal

abbrev pub invariant-loop-r : goal.invariant-loop-r
invariant-loop-r g l =
    (is_some (g.S.Spool.lot l.spool) ≡ true)
    × StagedAll g.S.Spool (counts_of l.ledger) l.initial.spool (map (entry l.message.payload.now) (take l.r-index l.message.recipients.now)) l.spool
    × (g.S.Spool.floor l.spool ≡ g.S.Spool.floor l.initial.spool)
