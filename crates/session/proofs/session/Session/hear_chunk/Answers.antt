use Rattle.std.proofs.Common.{◌≡◌, ◌^◌, ◌<◌, cond, length, take, sym, refl, ◌∙◌, arith, rules}
use Rattle.std.proofs.lemmas.List.{length-take-le}
use Rattle.std.proofs.lemmas.Slice.{overwrites}
use Rattle.std.proofs.lemmas.Bool.{cond-false}
use Rattle.protocol.specs.Outputs.{overlaid, put}
use Rattle.session.specs.Places.{setting_of}
use Rattle.session.proofs.Hearing.{chunk_last, chunk_more, put_fits, put_past}
use Rattle.session.proofs.session.Session.hear_chunk.Goals as goal
use Rattle.session.proofs.session.Session.hear_chunk.Goals.{then-joins+then-end-area, else-joins, else-joins-via-then-joins+else-end-area, else-joins-via-else-joins}

pub returns-then-got-chunk-clause-hears : goal.returns-then-got-chunk-clause-hears
returns-then-got-chunk-clause-hears c =
    let x = c.args.self.now in
    let a = c.args.area.now in
    let run = take c.min-count.result c.args.input.now in
    let at = c.saturating_add-at.result in
    let lt : length a < 2 ^ 64 = omega arith in
    let long : length run ≡ c.min-count.result = length-take-le _ c.args.input.now (omega (arith, c.min-count.ensures)) in
    let is : c.if-joins.area ≡ cond c.args.part.joins (put a at run) a = elim c.if-joins.branch [
      | then-joins+then-end-area w ↦
          let over : c.if-joins.area ≡ overlaid a at run = w.area-is ∙ search (rules, overwrites) in
          over ∙ put_fits c.args.part.joins a run at w.if-joins.true (omega (arith, w.if-end-area.true, c.saturating_add-end.ensures, long))
      | else-joins w ↦
          w.area-is ∙ elim w.else-joins.branch [
            | else-joins-via-then-joins+else-end-area w' ↦ put_past c.args.part.joins a run at (omega (arith, w'.if-end-area.false, c.saturating_add-end.ensures, long))
            | else-joins-via-else-joins w' ↦ sym (cond-false c.args.part.joins (put a at run) a w'.if-joins.false)
          ]
    ] in
    record { in_any = λ name find. chunk_more (setting_of x name a find) x a c.if-joins.area c.args.sheet.now c.args.part run at refl c.requires.mode lt (omega arith) c.saturating_add-at.ensures is c.min-count.result (sym long) _ }

pub returns-else-got-chunk-clause-hears : goal.returns-else-got-chunk-clause-hears
returns-else-got-chunk-clause-hears c =
    let x = c.args.self.now in
    let a = c.args.area.now in
    let run = take c.min-count.result c.args.input.now in
    let at = c.saturating_add-at.result in
    let lt : length a < 2 ^ 64 = omega arith in
    let long : length run ≡ c.min-count.result = length-take-le _ c.args.input.now (omega (arith, c.min-count.ensures)) in
    let is : c.if-joins.area ≡ cond c.args.part.joins (put a at run) a = elim c.if-joins.branch [
      | then-joins+then-end-area w ↦
          let over : c.if-joins.area ≡ overlaid a at run = w.area-is ∙ search (rules, overwrites) in
          over ∙ put_fits c.args.part.joins a run at w.if-joins.true (omega (arith, w.if-end-area.true, c.saturating_add-end.ensures, long))
      | else-joins w ↦
          w.area-is ∙ elim w.else-joins.branch [
            | else-joins-via-then-joins+else-end-area w' ↦ put_past c.args.part.joins a run at (omega (arith, w'.if-end-area.false, c.saturating_add-end.ensures, long))
            | else-joins-via-else-joins w' ↦ sym (cond-false c.args.part.joins (put a at run) a w'.if-joins.false)
          ]
    ] in
    record { in_any = λ name find. chunk_last (setting_of x name a find) x a c.if-joins.area c.args.sheet.now c.args.part run at refl c.requires.mode lt (omega (arith, c.min-count.ensures, c.args.part.more)) c.saturating_add-at.ensures is c.end_chunk-event.new.self c.end_chunk-event.result (omega arith) c.if-joins.auto.area c.end_chunk-event.ensures }
