use Rattle.std.proofs.Common.{length, take, arith, refl, rules}
use Rattle.std.proofs.lemmas.Slice.{overwrites}
use Rattle.protocol.specs.Outputs.{overlaid}
use Rattle.protocol.proofs.Laying.{adds_part, laid_is}
use Rattle.protocol.proofs.part.DataPart.put.Goals as goal

pub returns-else-octets-room-clause-adds : goal.returns-else-octets-room-clause-adds
returns-else-octets-room-clause-adds c = record {
  lays = λ payload was l.
      let xs = c.args.octets.now in
      let area = c.args.area.now in
      let d = c.args.self.now in
      let room = c.in-Some.room in
      let part = adds_part xs (take room xs) payload was area d.kept room d.over (omega (arith, c.in-Some.ensures)) c.if-octets-room.false refl l in
      laid_is _ _ _ (overlaid area d.kept (take room xs)) _ (length area) _ _ (search (rules, overwrites)) (search rules) refl part;
}
