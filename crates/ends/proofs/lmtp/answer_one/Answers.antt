use Rattle.ends.specs.Filing.{entry}
use Rattle.ends.specs.Ledgers.{counts_of}
use Rattle.ends.proofs.Faulting.{answered-fault}
use Rattle.ends.proofs.lmtp.answer_one.Goals as goal

pub returns-in-Err-clause-answered : goal.returns-in-Err-clause-answered
returns-in-Err-clause-answered g c =
    answered-fault g.S.Spool (counts_of c.args.before.now) c.args.spool.now c.try_one.new.spool (entry c.args.payload.now c.args.recipient) c.in-Err.fault c.from.result c.from.ensures c.in-Err.ensures.alone
