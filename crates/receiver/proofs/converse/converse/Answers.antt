use Rattle.std.proofs.Common.{◌≡◌, ℕ, ◌-◌, ◌≤◌, List, [], length, take, drop, ap, subst, inl, inr, arith}
use Rattle.std.proofs.lemmas.List.{length-drop, take_all}
use Rattle.receiver.specs.Moments.{Told, moment}
use Rattle.receiver.proofs.Conversing.{conversing_none, conversing_step, conversing_write, first_none}
use Rattle.receiver.proofs.converse.converse.Goals as goal
use Rattle.receiver.proofs.converse.converse.Goals.{else-loop-output-test, then-loop-output-test+in-None+then-taken-input, then-taken-input-via-then-taken-input, then-taken-input-via-else-taken-input+then-is_ended}

rest_whole : (xs : List ℕ) (n : ℕ) → take (length xs - n) (drop n xs) ≡ drop n xs
rest_whole xs n = take_all (length xs - n) (drop n xs) (omega (arith, length-drop n xs))

pub loop-output-init : goal.loop-output-init
loop-output-init g c = conversing_none g.S.Spool _ _ _ _ _ c.requires.roomy c.requires.wide c.requires.idle

pub loop-output-preserved-in-Some : goal.loop-output-preserved-in-Some
loop-output-preserved-in-Some g c =
    let l = c.loop-output in
    let w = c.write-written in
    conversing_write g.S.Spool c.args.host.now.name.now (g.D.Directory.told c.args.host.now.directory.now) _ l.seat c.pass.new.self l.ledger l.area l.sheet l.spool c.in-Some.reply c.args.input.now c.args.output.now l.output w.new.output l.taken l.written w.result l.invariant (omega (arith, l.invariant.some_written)) c.in-Some.ensures c.pass.ensures w.ensures.end w.ensures.after w.ensures.within w.auto.output

pub loop-output-preserved : goal.loop-output-preserved
loop-output-preserved g c =
    let l = c.loop-output in
    let t = c.step-taken in
    let input = c.args.input.now in
    let name = c.args.host.now.name.now in
    let find = g.D.Directory.told c.args.host.now.directory.now in
    let m = moment l.seat l.ledger l.area l.sheet l.spool in
    let m' = moment t.new.seat t.new.ledger t.new.area t.new.sheet t.new.spool in
    let e : take (length input - l.taken) (drop l.taken input) ≡ drop l.taken input = rest_whole input l.taken in
    let within : t.result ≤ length (drop l.taken input) = omega (arith, t.ensures.within, ap length e) in
    let P : List ℕ → Type 0 = λ v. Told g.S.Spool name find m m' (take t.result v) [] in
    conversing_step g.S.Spool name find _ m m' input c.args.output.now l.output l.taken l.written t.result l.invariant (omega (arith, l.invariant.some_written)) within (omega (arith, within, length-drop l.taken input)) t.ensures.size t.auto.area t.ensures.idle (subst P e t.ensures.told)

pub returns : goal.returns
returns g c =
    let l = c.loop-output in
    record {
      taken = l.invariant.some_taken;
      written = l.invariant.some_written;
      waiting = c.len.ensures;
      rest = l.invariant.tail;
      size = l.invariant.size-stays;
      told = l.invariant.told;
      paced = l.invariant.paced;
      stops = λ h. elim c.loop-output-test.branch [
        | else-loop-output-test w ↦ absurd (omega (arith, w.loop-output-test.false))
        | then-loop-output-test+in-None+then-taken-input w ↦ (
          first_none _ w.in-None.ensures,
          elim w.then-taken-input.branch [
            | then-taken-input-via-then-taken-input w' ↦ inl (omega (arith, l.invariant.some_taken, w'.if-taken-input.true))
            | then-taken-input-via-else-taken-input+then-is_ended w' ↦ inr (w'.is_ended.ensures.0 w'.if-is_ended.true)
          ],
        )
      ];
    }
