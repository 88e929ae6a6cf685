use Rattle.std.proofs.Common.{[], ◌∷◌, arith}
use Rattle.protocol.proofs.Laying.{adds_one, adds_none}
use Rattle.protocol.proofs.part.DataPart.put_octet.Goals as goal

pub returns-then-self-area-clause-adds : goal.returns-then-self-area-clause-adds
returns-then-self-area-clause-adds c = record { lays = λ payload was l. adds_one c.args.octet payload was c.args.area.now c.args.self.now.kept c.args.self.now.over c.if-self-area.true l }

pub returns-else-self-area-clause-adds : goal.returns-else-self-area-clause-adds
returns-else-self-area-clause-adds c = record {
  lays = λ payload was l. adds_none (c.args.octet ∷ []) payload was c.args.area.now c.args.self.now.kept c.args.self.now.over c.if-self-area.false (omega arith) l;
}
