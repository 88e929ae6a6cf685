use Rattle.std.proofs.Common.{refl}
use Rattle.protocol.proofs.Buffering as buffering
use Rattle.protocol.proofs.Trims as trims
use Rattle.protocol.proofs.line.LineBuffer.new.Goals as goal

pub returns : goal.returns
returns c = record { zero = refl; stands = buffering.stands_none _; lines = trims.laws; buffers = buffering.laws }
