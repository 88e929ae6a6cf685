use Rattle.std.proofs.Common.{length}
use Rattle.address.proofs.Quotes.{ReadTo}
use Rattle.address.proofs.parts.quoted.Given as goal

abbrev pub invariant-loop-behind : goal.invariant-loop-behind
invariant-loop-behind l = ReadTo l.s l.rest

abbrev pub decreases-loop-behind : goal.decreases-loop-behind
decreases-loop-behind l = length l.rest
