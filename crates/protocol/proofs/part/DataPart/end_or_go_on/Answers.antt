use Rattle.std.proofs.Common.{[], ◌∷◌}
use Rattle.protocol.specs.DataParts.{inside}
use Rattle.protocol.specs.declared.part.LinePlace.TheVariants.{DotCr}
use Rattle.protocol.proofs.Laying.{adds_both}
use Rattle.protocol.proofs.Moves.{dotcr_on}
use Rattle.protocol.proofs.Takes.{took_on, took_end}
use Rattle.protocol.proofs.part.DataPart.end_or_go_on.Goals as goal

pub returns-then-octet-eq10 : goal.returns-then-octet-eq10
returns-then-octet-eq10 c = took_end _ _ _ c.if-octet-eq10.true c.requires

pub returns : goal.returns
returns c =
    took_on DotCr (inside c.args.octet) _ _ _ _ _ _ (dotcr_on _ c.if-octet-eq10.false) c.requires c.go_on.ensures.place
    (adds_both (13 ∷ []) (c.args.octet ∷ []) c.args.self.now c.put_octet.new.self c.go_on.new.self _ c.put_octet.new.area _ c.put_octet.ensures.adds c.go_on.ensures.adds)
