use Rattle.std.proofs.Common.{◌+◌, ◌%◌, List, [], ◌∷◌, ◌++◌, map, get_or, take, sym, ◌∙◌, subst, arith}
use Rattle.std.proofs.lemmas.List.{length-map, length-take}
use Rattle.spool.specs.Entries.{Entry}
use Rattle.protocol.specs.declared.reply.Reply.{Reply}
use Rattle.ends.specs.Ends.{EachFiled}
use Rattle.ends.specs.Filing.{entry}
use Rattle.ends.proofs.Chains.{each_more, each_few}
use Rattle.ends.proofs.Counting.{entries_more}
use Rattle.ends.proofs.lmtp.answer_all.Goals as goal

pub answer_one-requires-clause-fits : goal.answer_one-requires-clause-fits
answer_one-requires-clause-fits g c =
    let rs = c.args.message.now.recipients.now in
    let i = c.loop-r.r-index in
    let es = map (entry c.args.message.now.payload.now) (take i rs) in
    omega (arith, each_few g.S.Spool c.args.ledger.now c.loop-r.ledger c.args.spool.now c.loop-r.spool es c.loop-r.replies.items (get_or rs i 0 % 64) (omega arith) c.loop-r.invariant.0, length-map (take i rs) (entry c.args.message.now.payload.now), length-take i rs, c.requires.few)

pub loop-r-preserved : goal.loop-r-preserved
loop-r-preserved g c =
    let p = c.args.message.now.payload.now in
    let rs = c.args.message.now.recipients.now in
    let i = c.loop-r.r-index in
    let e = entry p (get_or rs i 0) in
    let one = c.answer_one.ensures in
    let l = c.args.ledger.now in
    let k = c.answer_one.new.ledger in
    let s = c.args.spool.now in
    let s' = c.answer_one.new.spool in
    let bs = c.loop-r.replies.items in
    let more = each_more g.S.Spool l c.loop-r.ledger k s c.loop-r.spool s' (map (entry p) (take i rs)) bs e c.answer_one.result c.loop-r.invariant.0 one.answered one.counted in
    let P : List Entry → Type 0 = λ es. EachFiled g.S.Spool l k s s' es (bs ++ c.answer_one.result ∷ []) in
    let Q : List Reply → Type 0 = λ v. EachFiled g.S.Spool l k s s' (map (entry p) (take (i + 1) rs)) v in
    (subst Q (sym c.push.ensures.items) (subst P (sym (entries_more p rs i c.loop-r-test.true)) more), one.floor ∙ c.loop-r.invariant.1)
