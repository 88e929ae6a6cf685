use Rattle.receiver.proofs.Settlement.{smtp_ended}
use Rattle.receiver.proofs.ending.end_smtp.Goals as goal

pub returns : goal.returns
returns g c = smtp_ended g.S.Spool c.args.ledger.now c.smtp_end.new.ledger c.args.spool.now c.smtp_end.new.spool c.args.message.now.recipients.now c.args.message.now.payload.now c.in-Ok.reply c.one.result c.in-Ok.ensures.end c.one.ensures
