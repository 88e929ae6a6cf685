use Rattle.std.proofs.Common.{◌≡◌, ℕ, ◌-◌, ◌<◌, List, false, length, take, drop, refl, sym, ap, subst, ◌∙◌, arith}
use Rattle.std.proofs.lemmas.List.{length-append, length-drop, length-take-le}
use Rattle.std.specs.List.{AllByRecursion}
use Rattle.std.proofs.lemmas.Bool.{eqb-false}
use Rattle.protocol.proofs.Takes.{first_then, rests_all, rests_less, rests_took, took_run}
use Rattle.protocol.proofs.part.DataPart.feed.Goals as goal

pub loop-rest-init : goal.loop-rest-init
loop-rest-init c = rests_all _ _ _

pub loop-rest-preserved-then-not-is_empty : goal.loop-rest-preserved-then-not-is_empty
loop-rest-preserved-then-not-is_empty c =
    let k = c.run_length.ensures in
    let s = c.split_at.ensures in
    let P : List ℕ → Type 0 = λ t. AllByRecursion (λ x. x ≡ 13 → ⊥) t in
    let n = eqb-false _ 0 (sym c.is_empty.ensures ∙ c.if-not-is_empty.true) in
    let some : 0 < c.run_length.result = omega (arith, n, s.front_len) in
    rests_less _ c.loop-rest.rest.now _ _ _ _ _ _ _ _ false refl s.by_index.0 c.loop-rest.invariant (took_run _ _ _ _ _ (subst P (sym s.front) k.clear) (k.place some) c.put.ensures.place c.put.ensures.adds)

pub loop-rest-preserved : goal.loop-rest-preserved
loop-rest-preserved c =
    rests_less _ c.loop-rest.rest.now _ _ _ _ _ _ _ _ _ c.if-take.false (first_then c.loop-rest.rest.now c.in-len1-up.len_at_least) c.loop-rest.invariant c.take.ensures

pub returns-then-take-clause-took : goal.returns-then-take-clause-took
returns-then-take-clause-took c =
    let rest = c.loop-rest.rest.now in
    let whole = ap length c.loop-rest.invariant.whole ∙ length-append c.loop-rest.invariant.taken rest in
    let left = length-drop 1 rest in
    let later : length (take (length rest - 1) (drop 1 rest)) ≡ length rest - 1 = length-take-le (length rest - 1) (drop 1 rest) (omega arith) in
    rests_took _ rest _ _ _ _ _ _ _ _ _ _ _ (omega (arith, c.in-len1-up.len_at_least)) c.if-take.true (first_then c.loop-rest.rest.now c.in-len1-up.len_at_least) c.loop-rest.invariant c.take.ensures
