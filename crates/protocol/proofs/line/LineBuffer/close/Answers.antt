use Rattle.protocol.proofs.Buffering.{closed_long, closed_short}
use Rattle.protocol.proofs.line.LineBuffer.close.Goals as goal

pub returns-then-not-self : goal.returns-then-not-self
returns-then-not-self c = closed_short _ _ c.requires c.if-not-self.true c.saturating_sub-self.ensures

pub returns-else-not-self : goal.returns-else-not-self
returns-else-not-self c = closed_long _ c.requires c.if-not-self.false
