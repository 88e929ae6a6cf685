use Rattle.std.proofs.Common.{◌≡◌, map, take}
use Rattle.ends.specs.Filing.{entry}
use Rattle.ends.specs.Ends.{EachFiled}
use Rattle.ends.proofs.lmtp.answer_all.Given as goal

abbrev pub invariant-loop-r : goal.invariant-loop-r
invariant-loop-r g l =
    EachFiled g.S.Spool l.before l.ledger l.initial.spool l.spool (map (entry l.message.payload.now) (take l.r-index l.message.recipients.now)) l.replies.items
    × (g.S.Spool.floor l.spool ≡ g.S.Spool.floor l.initial.spool)
