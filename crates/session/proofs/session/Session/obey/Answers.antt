use Rattle.std.proofs.Common.{◌≡◌, Bool, Ok, Err, Some, sym, refl, ap, ◌∙◌, subst}
use Rattle.judgement.specs.Judgements.{Judged}
use Rattle.judgement.specs.declared.judged.Asked.TheVariants as asks
use Rattle.judgement.specs.declared.phase.Phase.{Phase}
use Rattle.judgement.specs.declared.phase.Phase.TheVariants as phase
use Rattle.protocol.specs.declared.reply.Reply.TheVariants as reply
use Rattle.session.specs.Standings.{answer, commands, idle, refused}
use Rattle.session.specs.Places.{Obeyed, for_data, standing_of}
use Rattle.session.specs.Seeking.{number_of}
use Rattle.session.specs.declared.session.Mode.TheVariants as mode
use Rattle.session.proofs.Obeying.{obeyed_end, obeyed_moved, obeyed_start, obeyed_still, resets}
use Rattle.session.proofs.session.Session.obey.Goals as goal

pub returns-then-refused : goal.returns-then-refused
returns-then-refused c =
    let a = c.args in
    let r = c.in_default-Err.refused in
    let e : a.judged ≡ Err r = cc in
    obeyed_end a.self.now c.end.new.self a.sheet.now (number_of a.asked) a.judged (Err r) c.end.result r.reply e c.end.ensures.answer c.end.ensures.ended (λ area. ap (λ (b : Bool). Some (refused (standing_of a.self.now area a.sheet.now) r.reply b)) c.if-refused.true)

pub returns-else-refused : goal.returns-else-refused
returns-else-refused c =
    let a = c.args in
    let r = c.in_default-Err.refused in
    let e : a.judged ≡ Err r = cc in
    obeyed_still a.self.now a.sheet.now (number_of a.asked) a.judged (Err r) r.reply e (λ area. ap (λ (b : Bool). Some (refused (standing_of a.self.now area a.sheet.now) r.reply b)) c.if-refused.false)

pub returns-in_default-Ok-Hello : goal.returns-in_default-Ok-Hello
returns-in_default-Ok-Hello c =
    let a = c.args in
    let s = c.restart in
    obeyed_start a.self.now s.new.self a.sheet.now (number_of a.asked) a.judged (Ok asks.Hello) s.result reply.Hello phase.Greeted (let e : a.judged ≡ Ok asks.Hello = cc in e) s.ensures.answer s.ensures.started refl (λ _. refl)

pub returns-in_default-Ok-Extended : goal.returns-in_default-Ok-Extended
returns-in_default-Ok-Extended c =
    let a = c.args in
    let s = c.restart-in_default-Ok-Extended in
    obeyed_start a.self.now s.new.self a.sheet.now (number_of a.asked) a.judged (Ok asks.Extended) s.result reply.Extensions phase.Greeted (let e : a.judged ≡ Ok asks.Extended = cc in e) s.ensures.answer s.ensures.started refl (λ _. refl)

pub returns-in_default-Ok-Mail : goal.returns-in_default-Ok-Mail
returns-in_default-Ok-Mail c =
    let a = c.args in
    let s = c.restart-in_default-Ok-Mail in
    obeyed_start a.self.now s.new.self a.sheet.now (number_of a.asked) a.judged (Ok asks.Mail) s.result reply.Done phase.Mail (let e : a.judged ≡ Ok asks.Mail = cc in e) s.ensures.answer s.ensures.started refl (λ _. refl)

pub returns-in_default-Ok-Rcpt : goal.returns-in_default-Ok-Rcpt
returns-in_default-Ok-Rcpt c =
    let a = c.args in
    let P : Judged → Type 0 = λ j. Obeyed a.self.now c.enrol.new.self a.sheet.now c.enrol.new.sheet (number_of a.asked) j c.enrol.result in
    subst P (sym (let e : a.judged ≡ Ok (asks.Rcpt c.in_default-Ok-Rcpt._line) = cc in e)) (c.enrol.ensures _)

pub returns-in_default-Ok-Data : goal.returns-in_default-Ok-Data
returns-in_default-Ok-Data c =
    let a = c.args in
    obeyed_moved a.self.now a.sheet.now (number_of a.asked) a.judged (Ok asks.Data) reply.GoAhead phase.Data (mode.Data c.new.result) (let e : a.judged ≡ Ok asks.Data = cc in e) (λ _ _. for_data c.new.result c.new.ensures) (λ _. refl)

pub returns-in_default-Ok-Reset : goal.returns-in_default-Ok-Reset
returns-in_default-Ok-Reset c =
    let a = c.args in
    let s = c.restart-in_default-Ok-Reset in
    let e = c.after_reset.ensures in
    obeyed_start a.self.now s.new.self a.sheet.now (number_of a.asked) a.judged (Ok asks.Reset) s.result reply.Done c.after_reset.result (let e : a.judged ≡ Ok asks.Reset = cc in e) s.ensures.answer s.ensures.started (ap commands e ∙ resets a.self.now.phase) (λ _. ap (λ (p : Phase). Some (answer reply.Done (idle p))) (sym e))

pub returns-in_default-Ok-Noop : goal.returns-in_default-Ok-Noop
returns-in_default-Ok-Noop c = let a = c.args in obeyed_still a.self.now a.sheet.now (number_of a.asked) a.judged (Ok asks.Noop) reply.Done (let e : a.judged ≡ Ok asks.Noop = cc in e) (λ _. refl)

pub returns-in_default-Ok-Verify : goal.returns-in_default-Ok-Verify
returns-in_default-Ok-Verify c = let a = c.args in obeyed_still a.self.now a.sheet.now (number_of a.asked) a.judged (Ok asks.Verify) reply.CannotVerify (let e : a.judged ≡ Ok asks.Verify = cc in e) (λ _. refl)

pub returns-in_default-Ok-Quit : goal.returns-in_default-Ok-Quit
returns-in_default-Ok-Quit c =
    let a = c.args in
    let s = c.end-in_default-Ok-Quit in
    obeyed_end a.self.now s.new.self a.sheet.now (number_of a.asked) a.judged (Ok asks.Quit) s.result reply.Closing (let e : a.judged ≡ Ok asks.Quit = cc in e) s.ensures.answer s.ensures.ended (λ _. refl)
