use Rattle.std.proofs.Common.{[], map, length, refl, ap, ◌∙◌, arith}
use Rattle.std.proofs.lemmas.Bool.{true≢false}
use Rattle.spool.specs.Rules.{opened}
use Rattle.ends.specs.Ends.{all_filed, none-filed}
use Rattle.ends.specs.Filing.{entry}
use Rattle.ends.specs.Ledgers.{counts_of}
use Rattle.ends.proofs.Chains.{staged_admits, all_counted, none_counted}
use Rattle.ends.proofs.Counting.{counted_any}
use Rattle.ends.proofs.Faulting.{starts_idle}
use Rattle.ends.proofs.smtp.smtp_end.Goals as goal

pub note_all-requires : goal.note_all-requires
note_all-requires g c = record {
  few = omega arith;
  admits = record { each = staged_admits g.S.Spool (counts_of c.args.ledger.now) c.«open».new.spool c.stage_all.new.spool c.args.message.now.payload.now c.args.message.now.recipients.now c.in-Ok.ensures.staging };
}

pub returns-in-Ok : goal.returns-in-Ok
returns-in-Ok g c =
    let o = c.in_ok-ticket.ensures in
    let st = c.in-Ok.ensures in
    let p = c.args.message.now.payload.now in
    let rs = c.args.message.now.recipients.now in
    record {
      answer = starts_idle (length rs) (g.S.Spool.lot c.args.spool.now) (omega arith) o.answer;
      refused = λ e. absurd (true≢false e);
      end = all_filed refl (all_counted g.S.Spool c.args.ledger.now c.note_all.new.self c.args.spool.now c.commit.new.spool (map (entry p) rs) (record {
        open_at = c.«open».new.spool;
        full_at = c.stage_all.new.spool;
        opens = record { idle = o.answer; begun = o.lot ∙ ap opened o.answer; keeps = o.held };
        stages = st.staging;
        commits = record { ended = c.commit.ensures.lot; files = c.commit.ensures.held };
      }) (counted_any c.args.ledger.now c.note_all.new.self [] p rs c.note_all.ensures));
      floor = c.commit.ensures.floor ∙ st.floor ∙ o.floor;
    }

pub returns-in-Err : goal.returns-in-Err
returns-in-Err g c =
    let o = c.in_ok-ticket.ensures in
    let st = c.in-Err.ensures in
    let p = c.args.message.now.payload.now in
    let rs = c.args.message.now.recipients.now in
    record {
      answer = starts_idle (length rs) (g.S.Spool.lot c.args.spool.now) (omega arith) o.answer;
      refused = λ e. absurd (true≢false e);
      end = none-filed (none_counted g.S.Spool c.args.ledger.now c.args.spool.now c.withdraw.new.spool (map (entry p) rs) c.in-Err.fault c.from.result c.from.ensures (record {
        open_at = c.«open».new.spool;
        full_at = c.stage_all.new.spool;
        opens = record { idle = o.answer; begun = o.lot ∙ ap opened o.answer; keeps = o.held };
        stages = st.staging;
        withdraws = record { ended = c.withdraw.ensures.lot; keeps = c.withdraw.ensures.held };
      }));
      floor = c.withdraw.ensures.floor ∙ st.floor ∙ o.floor;
    }
