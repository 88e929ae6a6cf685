use Rattle.std.proofs.Common.{◌≡◌, [], length, Some, sym, refl, ap, ◌∙◌, subst, arith}
use Rattle.std.proofs.lemmas.Result.{err_from_is_err_and}
use Rattle.refusals.specs.Refusals.{Notice, notice}
use Rattle.spool.specs.Entries.{Entry}
use Rattle.spool.specs.Rules.{opened}
use Rattle.spool.proofs.Told.{staged-fault}
use Rattle.filing.specs.Lots.{Declined, nowhere, busy, full}
use Rattle.filing.proofs.single.file.Goals as goal

pub returns-then-mailbox-gt63-clause-files : goal.returns-then-mailbox-gt63-clause-files
returns-then-mailbox-gt63-clause-files g c = nowhere (omega arith) refl

pub returns-in_err-ticket-clause-files : goal.returns-in_err-ticket-clause-files
returns-in_err-ticket-clause-files g c =
    let p = err_from_is_err_and c.from_residual.result c.from_residual.ensures.1 in
    let o = c.in_err-ticket.ensures in
    let e : Entry = record { mailbox = c.args.mailbox; payload = c.args.payload.now } in
    let P : Notice → Type 0 = Declined g.S.Spool c.args.spool.now c.open.new.spool e in
    rw (p.1, p.2) (subst P (sym o.answer.0) (busy (omega arith) o.answer.1 (o.refused refl)))

pub returns-in-Err-clause-files : goal.returns-in-Err-clause-files
returns-in-Err-clause-files g c =
    let o = c.in_ok-ticket.ensures in
    let s = c.in-Err.ensures in
    let e : Entry = record { mailbox = c.args.mailbox; payload = c.args.payload.now } in
    let s1 = c.open.new.spool in
    let l : g.S.Spool.lot s1 ≡ Some [] = o.lot ∙ ap opened o.answer in
    let f = staged-fault e.mailbox (g.S.Spool.lot s1) (g.S.Spool.room s1 e.mailbox (length e.payload)) [] (omega arith) l (notice c.in-Err.refusal) s.answer in
    let P : Notice → Type 0 = Declined g.S.Spool c.args.spool.now c.withdraw.new.spool e in
    subst P (sym f.1.1) (full (omega arith) f.0 (record {
      open_at = s1;
      opens = record { idle = o.answer; begun = l; keeps = o.held };
      lacks = f.1.0;
      withdraws = record { ended = c.withdraw.ensures.lot; keeps = c.withdraw.ensures.held ∙ s.held };
    }))
