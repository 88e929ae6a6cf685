use Rattle.std.proofs.Common.{◌≡◌, length}
use Rattle.protocol.specs.Lines.{trim}
use Rattle.protocol.proofs.line.trimmed.Given as goal

abbrev pub invariant-loop-kept : goal.invariant-loop-kept
invariant-loop-kept l = trim l.kept ≡ trim l.text

abbrev pub decreases-loop-kept : goal.decreases-loop-kept
decreases-loop-kept l = length l.kept
