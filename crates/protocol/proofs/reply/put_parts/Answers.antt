use Rattle.std.proofs.Common.{rules, [], ◌∷◌}
use Rattle.std.proofs.lemmas.Slice.{overwrites}
use Rattle.protocol.proofs.Overlays.{put_next}
use Rattle.protocol.proofs.reply.put_parts.Goals as goal

pub loop-part-2-preserved : goal.loop-part-2-preserved
loop-part-2-preserved c =
    put_next (c.args.lead ∷ c.args.first ∷ c.args.between ∷ c.args.second ∷ c.args.tail ∷ []) (record { ref_ptr = (0, 0); now = [] })
    c.loop-part-2.part-index c.args.output.now c.loop-part-2.output _ c.args.at c.loop-part-2.end _ c.loop-part-2-test.true (search rules) c.loop-part-2.invariant (search (rules, overwrites)) (search rules)
