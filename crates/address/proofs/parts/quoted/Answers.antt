use Rattle.std.proofs.Common.{[], ◌∷◌}
use Rattle.std.proofs.lemmas.Bool.Decides.{Decides-eqb}
use Rattle.std.proofs.lemmas.Option.{MatchOption-at_some, MatchOption-at_none}
use Rattle.std.proofs.lemmas.Slice.Eq.{strip_prefix_is}
use Rattle.address.proofs.Quotes.{begun, read_on, read_stuck, read_closed}
use Rattle.address.proofs.parts.quoted.Goals as goal

pub loop-behind-init : goal.loop-behind-init
loop-behind-init c =
    let s = c.args.s.now in
    let rest = c.in_ok-rest.rest in
    begun s rest.now (MatchOption-at_some _ _ rest c.in_ok-rest.was (strip_prefix_is Decides-eqb s (34 ∷ []) c.strip_prefix.result c.strip_prefix.ensures.cases))

pub returns-in-Some : goal.returns-in-Some
returns-in-Some c =
    let rest = c.loop-behind.rest.now in
    let behind = c.in-Some.behind in
    let p = c.strip_prefix-in-loop-behind in
    read_closed c.args.s.now rest behind.now c.loop-behind.invariant
    (MatchOption-at_some _ _ behind c.in-Some.is (strip_prefix_is Decides-eqb rest (34 ∷ []) p.result p.ensures.cases))

pub returns-in_err-rest-2 : goal.returns-in_err-rest-2
returns-in_err-rest-2 c =
    let rest = c.loop-behind.rest.now in
    let p = c.strip_prefix-in-loop-behind in
    rw c.from_residual-in_err-rest-2.ensures
    (read_stuck c.args.s.now rest c.loop-behind.invariant
    (MatchOption-at_none _ _ c.in_default.is (strip_prefix_is Decides-eqb rest (34 ∷ []) p.result p.ensures.cases))
    c.in_err-rest-2.ensures)

pub loop-behind-preserved : goal.loop-behind-preserved
loop-behind-preserved c =
    (read_on c.args.s.now c.loop-behind.rest.now c.in_ok-rest-2.rest.now c.loop-behind.invariant c.in_ok-rest-2.ensures).0
