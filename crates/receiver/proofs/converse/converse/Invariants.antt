use Rattle.std.proofs.Common.{◌+◌, ◌-◌, length}
use Rattle.receiver.specs.Moments.{moment}
use Rattle.receiver.proofs.Conversing.{Conversing}
use Rattle.receiver.proofs.converse.converse.Given as goal

abbrev pub invariant-loop-output : goal.invariant-loop-output
invariant-loop-output g l =
    Conversing g.S.Spool l.host.name.now (g.D.Directory.told l.host.directory.now)
    (moment l.initial.seat l.initial.ledger l.initial.area l.initial.sheet l.initial.spool) (moment l.seat l.ledger l.area l.sheet l.spool)
    l.input l.initial.output l.output l.taken l.written

abbrev pub decreases-loop-output : goal.decreases-loop-output
decreases-loop-output g l = (length l.initial.input - l.taken) + (length l.initial.output - l.written)
