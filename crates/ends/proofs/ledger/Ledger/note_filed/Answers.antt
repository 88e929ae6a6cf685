use Rattle.std.proofs.Common.{[], arith}
use Rattle.ends.specs.Filing.{entry}
use Rattle.ends.proofs.Counting.{counted_one}
use Rattle.ends.proofs.ledger.Ledger.note_filed.Goals as goal

pub returns : goal.returns
returns c = counted_one c.args.self.now (entry [] c.args.recipient) (omega arith)
