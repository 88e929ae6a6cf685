use Rattle.std.proofs.Common.{ℕ, Bool, Option, length, refl, ap, ◌∙◌, subst, take}
use Rattle.protocol.specs.DataParts.{DataTook}
use Rattle.spool.specs.Lists.{records}
use Rattle.session.specs.Places.{setting_of}
use Rattle.session.specs.declared.session.Event.TheVariants.{MessageEnd}
use Rattle.session.proofs.Hearing.{data_ends}
use Rattle.session.proofs.session.Session.hear_data.Goals as goal

pub returns-then-fed-clause-hears : goal.returns-then-fed-clause-hears
returns-then-fed-clause-hears c =
    let f = c.feed-fed in
    let T : Bool → Type 0 = λ b. DataTook c.args.part f.new.self c.args.area.now f.new.area (take f.result.taken c.args.input.now) b in
    record {
      in_any = λ name find. data_ends (setting_of c.args.self.now name c.args.area.now find) c.args.self.now c.end_message-event.new.self c.args.area.now f.new.area c.args.sheet.now _ c.args.part f.new.self c.end_message-event.result refl c.requires.mode (subst T c.if-fed.true f.ensures.took) (c.end_message-event.ensures.answer ∙ ap (λ (k : Option ℕ). MessageEnd (length (records c.args.self.now.recipients c.args.sheet.now)) k) c.payload.ensures) c.end_message-event.ensures.started;
    }
