use Rattle.std.proofs.Common.{refl}
use Rattle.protocol.specs.DataParts.{inside}
use Rattle.protocol.specs.declared.part.LinePlace.TheVariants.{Start, Inside, Cr, Dot}
use Rattle.protocol.proofs.Moves.{inside_on, cr_on, start_on, dot_on, cr_lf}
use Rattle.protocol.proofs.Takes.{took_on}
use Rattle.protocol.proofs.part.DataPart.take.Goals as goal

pub returns-else-octet-eq46 : goal.returns-else-octet-eq46
returns-else-octet-eq46 c =
    took_on Start (inside c.args.octet) _ _ _ _ _ _ (start_on _ c.if-octet-eq46.false) c.in-Start.is c.go_on.ensures.place c.go_on.ensures.adds

pub returns-in-Inside : goal.returns-in-Inside
returns-in-Inside c =
    took_on Inside (inside c.args.octet) _ _ _ _ _ _ (inside_on _) c.in-Inside.is c.go_on-in-Inside.ensures.place c.go_on-in-Inside.ensures.adds

pub returns-then-octet-eq10 : goal.returns-then-octet-eq10
returns-then-octet-eq10 c = took_on Cr Start _ _ _ _ _ _ (cr_lf _ c.if-octet-eq10.true) c.in-Cr.is refl (record { lays = c.put_octet.ensures.adds.lays })

pub returns-else-octet-eq10 : goal.returns-else-octet-eq10
returns-else-octet-eq10 c =
    took_on Cr (inside c.args.octet) _ _ _ _ _ _ (cr_on _ c.if-octet-eq10.false) c.in-Cr.is c.go_on-else-octet-eq10.ensures.place c.go_on-else-octet-eq10.ensures.adds

pub returns-else-octet-eq13 : goal.returns-else-octet-eq13
returns-else-octet-eq13 c =
    took_on Dot (inside c.args.octet) _ _ _ _ _ _ (dot_on _ c.if-octet-eq13.false) c.in-Dot.is c.go_on-else-octet-eq13.ensures.place c.go_on-else-octet-eq13.ensures.adds
