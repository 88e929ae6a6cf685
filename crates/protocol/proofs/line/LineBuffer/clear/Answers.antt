use Rattle.protocol.proofs.Buffering.{stands_none}
use Rattle.protocol.proofs.line.LineBuffer.clear.Goals as goal

pub returns : goal.returns
returns c = stands_none _
