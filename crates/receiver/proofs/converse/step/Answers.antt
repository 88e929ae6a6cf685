use Rattle.std.proofs.Common.{◌≡◌, ℕ, ◌-◌, List, length, min, take, rules, sym, refl, ap, ◌∙◌, subst, arith}
use Rattle.session.specs.Places.{Hears, mailboxes, setting_of}
use Rattle.session.specs.Turns.{answered, ends}
use Rattle.session.specs.declared.session.Event.{Event}
use Rattle.session.specs.declared.session.Event.TheVariants.{Answered, MessageEnd}
use Rattle.std.specs.Option.{option_map}
use Rattle.spool.proofs.Fronts.{front_is}
use Rattle.receiver.specs.Ending.{Settled}
use Rattle.receiver.proofs.Settlement.{settled_answer}
use Rattle.receiver.proofs.Telling.{after_at, told_on, told-turn}
use Rattle.receiver.proofs.converse.step.Goals as goal

pub returns-in-More : goal.returns-in-More
returns-in-More g c =
    let x = c.args.seat.now in
    let name = c.args.host.now.name.now in
    let find = g.D.Directory.told c.args.host.now.directory.now in
    let h = c.hear-heard in
    let long : length c.args.sheet.now ≡ 100 = search rules in
    let octets = take h.result.taken c.args.input.now in
    let P : Event → Type 0 = λ e. Hears (setting_of x.session name c.args.area.now find) x.session h.new.self c.args.area.now h.new.area c.args.sheet.now h.new.sheet octets e in
    record {
      within = h.ensures.within;
      some = h.ensures.some c.requires.some long c.requires.goes;
      idle = c.requires.idle;
      size = refl;
      told = told_on g.S.Spool name find x h.new.self c.args.ledger.now c.args.area.now h.new.area c.args.sheet.now h.new.sheet octets c.args.spool.now c.requires.wide c.requires.quiet (subst P c.in-More.is h.ensures.hears);
    }

pub returns-in-Answered : goal.returns-in-Answered
returns-in-Answered g c =
    let x = c.args.seat.now in
    let name = c.args.host.now.name.now in
    let find = g.D.Directory.told c.args.host.now.directory.now in
    let h = c.hear-heard in
    let long : length c.args.sheet.now ≡ 100 = search rules in
    let octets = take h.result.taken c.args.input.now in
    let r = c.in-Answered.reply in
    let P : Event → Type 0 = λ e. Hears (setting_of x.session name c.args.area.now find) x.session h.new.self c.args.area.now h.new.area c.args.sheet.now h.new.sheet octets e in
    let heard = subst P c.in-Answered.is h.ensures.hears in
    record {
      within = h.ensures.within;
      some = h.ensures.some c.requires.some long c.requires.goes;
      idle = c.requires.idle;
      size = refl;
      told = told-turn g.S.Spool name find x h.new.self c.one-seat.result c.args.ledger.now c.args.ledger.now c.args.area.now h.new.area c.args.sheet.now h.new.sheet octets c.args.spool.now c.args.spool.now (answered r) c.requires.quiet
          (λ k f. after_at g.S.Spool name find x h.new.self c.args.area.now h.new.area c.args.sheet.now h.new.sheet octets (Answered r) k c.requires.wide f heard)
          (settled_answer g.S.Spool c.args.ledger.now c.args.spool.now x.kind r c.one-seat.result c.requires.idle c.one-seat.ensures);
    }

pub returns-in-MessageEnd : goal.returns-in-MessageEnd
returns-in-MessageEnd g c =
    let x = c.args.seat.now in
    let name = c.args.host.now.name.now in
    let find = g.D.Directory.told c.args.host.now.directory.now in
    let h = c.hear-heard in
    let long : length c.args.sheet.now ≡ 100 = search rules in
    let octets = take h.result.taken c.args.input.now in
    let n = c.in-MessageEnd.recipients in
    let k₀ = c.in-MessageEnd.payload in
    let area' = h.new.area in
    let sheet' = h.new.sheet in
    let e = c.settle-seat in
    let P : Event → Type 0 = λ v. Hears (setting_of x.session name c.args.area.now find) x.session h.new.self c.args.area.now area' c.args.sheet.now sheet' octets v in
    let heard = subst P c.in-MessageEnd.is h.ensures.hears in
    let cut : take (c.min.result - 0) sheet' ≡ take n sheet' = ap (λ (j : ℕ). take j sheet') (let z : c.min.result - 0 ≡ c.min.result = omega arith in z) ∙ front_is sheet' n c.min.result (c.min.ensures ∙ ap (min n) (sym (h.auto.sheet ∙ long))) in
    let Q : List ℕ → Type 0 = λ v. Settled g.S.Spool x.kind c.args.ledger.now e.new.ledger c.args.spool.now e.new.spool (ends (mailboxes v) (option_map (λ m. take m area') k₀)) e.result in
    let settled = subst Q cut e.ensures in
    record {
      within = h.ensures.within;
      some = h.ensures.some c.requires.some long c.requires.goes;
      idle = settled.idle;
      size = refl;
      told = told-turn g.S.Spool name find x h.new.self e.result c.args.ledger.now e.new.ledger c.args.area.now area' c.args.sheet.now sheet' octets c.args.spool.now e.new.spool (ends (mailboxes (take n sheet')) (option_map (λ m. take m area') k₀)) c.requires.quiet
          (λ k f. after_at g.S.Spool name find x h.new.self c.args.area.now area' c.args.sheet.now sheet' octets (MessageEnd n k₀) k c.requires.wide f heard)
          settled;
    }
