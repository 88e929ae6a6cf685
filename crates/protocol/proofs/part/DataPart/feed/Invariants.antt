use Rattle.std.proofs.Common.{length}
use Rattle.protocol.proofs.Takes.{Rests}
use Rattle.protocol.proofs.part.DataPart.feed.Given as goal

abbrev pub invariant-loop-rest : goal.invariant-loop-rest
invariant-loop-rest l = Rests l.initial.self l.self l.initial.area l.area l.input l.rest

abbrev pub decreases-loop-rest : goal.decreases-loop-rest
decreases-loop-rest l = length l.rest
