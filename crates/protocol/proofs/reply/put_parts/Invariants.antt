use Rattle.std.proofs.Common.{◌≡◌, ◌+◌, length, take}
use Rattle.std.specs.List.{flat_map}
use Rattle.protocol.proofs.Overlays.{Put}
use Rattle.protocol.proofs.reply.put_parts.Given as goal

abbrev pub invariant-loop-part : goal.invariant-loop-part
invariant-loop-part l = l.room + length (flat_map (λ part. part.now) (take l.part-index l.part-items)) + l.at ≡ length l.output

abbrev pub invariant-loop-part-2 : goal.invariant-loop-part-2
invariant-loop-part-2 l = Put l.fn.output l.output (flat_map (λ part. part.now) (take l.part-index l.part-items)) l.at l.end
