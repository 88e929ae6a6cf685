use Rattle.std.proofs.Common.{◌%◌, List, [], ◌∷◌, map, get_or, take, sym, subst, arith}
use Rattle.std.proofs.lemmas.List.{length-map, length-take}
use Rattle.spool.specs.Entries.{Entry}
use Rattle.ends.specs.Filing.{entry}
use Rattle.ends.specs.Ledgers.{Counted}
use Rattle.ends.proofs.Counting.{counted_more, count_most, entries_more}
use Rattle.ends.proofs.ledger.Ledger.note_all.Goals as goal

pub note_filed-requires : goal.note_filed-requires
note_filed-requires c =
    let rs = c.args.recipients.now in
    let i = c.loop-r.r-index in
    let m = get_or rs i 0 % 64 in
    let es = map (entry []) (take i rs) in
    omega (arith, c.requires.admits.each i c.loop-r-test.true, c.loop-r.invariant.filings m (omega arith), count_most m es, length-map (take i rs) (entry []), length-take i rs, c.requires.few)

pub loop-r-preserved : goal.loop-r-preserved
loop-r-preserved c =
    let rs = c.args.recipients.now in
    let i = c.loop-r.r-index in
    let l = c.args.self.now in
    let k = c.note_filed.new.self in
    let more = counted_more l c.loop-r.self k (map (entry []) (take i rs)) (entry [] (get_or rs i 0) ∷ []) c.loop-r.invariant c.note_filed.ensures in
    subst (λ (x : List Entry). Counted l k x) (sym (entries_more [] rs i c.loop-r-test.true)) more
