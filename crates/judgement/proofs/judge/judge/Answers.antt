use Rattle.std.proofs.Common.{◌≡◌, ℕ, List, Some, sym, ap, ◌∙◌, subst, inl, inr}
use Rattle.std.proofs.lemmas.Bool.{both_ways}
use Rattle.command.specs.Lines.{Printable, argument_part, verb_of}
use Rattle.protocol.specs.Lines.{trim}
use Rattle.judgement.specs.Judgements.{FromThird}
use Rattle.judgement.specs.Phases.{knows}
use Rattle.judgement.proofs.judge.judge.Goals as goal

pub returns-in-Some : goal.returns-in-Some
returns-in-Some c =
    let xs = c.args.text.now in
    let t : c.trimmed-line.result.now ≡ trim xs = c.trimmed-line.ensures in
    let v : verb_of (trim xs) ≡ Some c.in-Some.verb = ap verb_of (sym t) ∙ sym c.verb_of-verb.ensures ∙ c.in-Some.is in
    let a : c.argument_of-argument.result.now ≡ argument_part (trim xs) = c.argument_of-argument.ensures ∙ ap argument_part t in
    let p : Printable (trim xs) = subst Printable t (c.is_printable.ensures.0 c.if-not-is_printable.false) in
    let A : List ℕ → Type 0 = λ ys. FromThird c.args.phase c.args.area c.in-Some.verb ys c.judge_known.result in
    inr (
      (λ u. elim u [ inl h ↦ both_ways c.args.long c.if-long.false h | inr n ↦ n p ]),
      inr (
        (λ k. both_ways (knows c.args.kind (verb_of (trim xs))) k (ap (knows c.args.kind) v ∙ sym c.is_known.ensures ∙ c.if-is_known.true)),
        (c.in-Some.verb, v, subst A a c.judge_known.ensures),
      ),
    )
