use Rattle.std.proofs.Common.{length}
use Rattle.address.specs.Words.{IsWord, word_octet}
use Rattle.address.proofs.Runs.{Left}
use Rattle.address.proofs.words.dotted.Given as goal

abbrev pub invariant-loop-behind : goal.invariant-loop-behind
invariant-loop-behind l = Left (word_octet l.word) (IsWord l.word) l.s l.rest

abbrev pub decreases-loop-behind : goal.decreases-loop-behind
decreases-loop-behind l = length l.rest
