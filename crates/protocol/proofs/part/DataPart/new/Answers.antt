use Rattle.std.proofs.Common.{refl}
use Rattle.protocol.proofs.Takes.{stands_none}
use Rattle.protocol.proofs.part.DataPart.new.Goals as goal

pub returns : goal.returns
returns c = λ was. stands_none _ was refl refl refl refl
