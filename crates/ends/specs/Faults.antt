-- How a fault is answered. A spool's fault keeps its layer and its cause.
use Rattle.ends.specs.declared.faults.EndFault.{EndFault}
use Rattle.ends.specs.declared.faults.EndFault.TheVariants.{Room, Ledger}
use Rattle.protocol.specs.declared.reply.Reply.{Reply}
use Rattle.protocol.specs.declared.reply.Reply.TheVariants.{NoRoom, LedgerFull}

abbrev pub reply_of : EndFault → Reply
reply_of (Room f) = NoRoom f
reply_of Ledger = LedgerFull
