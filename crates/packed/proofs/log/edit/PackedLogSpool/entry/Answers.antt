use Rattle.std.proofs.Common.{arith}
use Rattle.packed.proofs.Telling.{summary_told}
use Rattle.packed.proofs.log.edit.PackedLogSpool.entry.Goals as goal

pub returns : goal.returns
returns c =
    summary_told c.args.self.now c.args.part c.args.at _ c.entry_rows.result.now c.entry.result c.map.result (omega arith) c.entry.ensures c.entry_rows.ensures c.map.ensures.cases
