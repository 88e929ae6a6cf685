use Rattle.std.proofs.Common.{ℕ, List, map, get_or, is_some, sym, ap, ◌∙◌, subst}
use Rattle.std.proofs.lemmas.List.{take_all}
use Rattle.std.proofs.lemmas.Result.{err_from_is_err_and}
use Rattle.std.proofs.lemmas.Bool.{ltb-true, ltb-false}
use Rattle.ends.specs.declared.faults.EndFault.TheVariants.{Room, Ledger}
use Rattle.ends.specs.Filing.{entry, StagedAll, Why, FirstFault}
use Rattle.ends.specs.Ledgers.{counts_of}
use Rattle.ends.proofs.Chains.{staged_more, first-fault}
use Rattle.ends.proofs.smtp.stage_all.Goals as goal

pub loop-r-preserved : goal.loop-r-preserved
loop-r-preserved g c =
    let st = c.in_ok-stage_one.ensures in (
      ap is_some st.tried.grows,
      staged_more g.S.Spool (counts_of c.args.ledger.now) c.args.spool.now c.loop-r.spool c.stage_one.new.spool c.args.message.now.payload.now c.args.message.now.recipients.now c.loop-r.r-index c.loop-r-test.true c.loop-r.invariant.1 (ltb-false _ _ (sym c.if-is_full.ensures)) st.tried,
      st.floor ∙ c.loop-r.invariant.2,
    )

pub returns-in_err-stage_one : goal.returns-in_err-stage_one
returns-in_err-stage_one g c =
    let p = err_from_is_err_and c.from_residual.result c.from_residual.ensures.1 in
    let st = c.in_err-stage_one.ensures in
    let w : Why g.S.Spool (counts_of c.args.ledger.now) c.loop-r.spool (entry c.args.message.now.payload.now (get_or c.args.message.now.recipients.now c.loop-r.r-index 0)) (Room c.in_err-stage_one.field-0.0) = (ltb-false _ _ (sym c.if-is_full.ensures), st.tried.0) in
    let f = first-fault g.S.Spool (counts_of c.args.ledger.now) c.args.spool.now c.loop-r.spool c.args.message.now.payload.now c.args.message.now.recipients.now c.loop-r.r-index (Room c.in_err-stage_one.field-0.0) c.loop-r-test.true c.loop-r.invariant.1 w in
    rw (p.1, p.2) (record {
      staging = subst (λ (x : g.row.S.Denot). FirstFault g.S.Spool (counts_of c.args.ledger.now) c.args.spool.now x (map (entry c.args.message.now.payload.now) c.args.message.now.recipients.now) (Room c.in_err-stage_one.field-0.0)) (sym st.tried.1) f;
      floor = st.floor ∙ c.loop-r.invariant.2;
    })

pub returns-then-is_full : goal.returns-then-is_full
returns-then-is_full g c = record {
  staging = first-fault g.S.Spool (counts_of c.args.ledger.now) c.args.spool.now c.loop-r.spool c.args.message.now.payload.now c.args.message.now.recipients.now c.loop-r.r-index Ledger c.loop-r-test.true c.loop-r.invariant.1 (ltb-true _ _ (sym c.if-is_full.ensures));
  floor = c.loop-r.invariant.2;
}

pub returns : goal.returns
returns g c = record {
  staging = subst (λ (x : List ℕ). StagedAll g.S.Spool (counts_of c.args.ledger.now) c.args.spool.now (map (entry c.args.message.now.payload.now) x) c.loop-r.spool) (take_all c.loop-r.r-index c.args.message.now.recipients.now c.loop-r-test.false) c.loop-r.invariant.1;
  floor = c.loop-r.invariant.2;
}
