use Rattle.std.proofs.Common.{◌≡◌, ℕ, List, [], ◌∷◌, Err, subst, arith, rules}
use Rattle.command.specs.Faults.{verdict}
use Rattle.command.specs.Parameters.{Wrong, size_only}
use Rattle.command.proofs.Judging.{first-wrong, size_alone, size_none, size_then}
use Rattle.command.proofs.Spacing.{behind_space, followed, parted, parted-alone}
use Rattle.command.proofs.parameter.mail_parameters.Goals as goal

pub returns-in-empty : goal.returns-in-empty
returns-in-empty c = size_none c.args.rest.now (omega arith)

pub returns-in_err-size-in-32 : goal.returns-in_err-size-in-32
returns-in_err-size-in-32 c =
    let xs = c.args.rest.now in
    let first = c.cut_at_space.result.0.now in
    let p = parted xs _ (behind_space xs c.in-32.len_at_least (omega arith)) first c.cut_at_space.ensures.word in
    let e : c.from_residual.result ≡ Err c.in_err-size-in-32.field-0.0 = search rules in
    rw e (first-wrong size_only xs first p.params p.whole (verdict c.in_err-size-in-32.field-0.0) c.in_err-size-in-32.ensures)

pub returns-in-Some : goal.returns-in-Some
returns-in-Some c =
    let xs = c.args.rest.now in
    let first = c.cut_at_space.result.0.now in
    let size = c.in_ok-size-in-32.ensures in
    let f = followed xs _ (behind_space xs c.in-32.len_at_least (omega arith)) first c.cut_at_space.ensures.word c.in-Some.more.now (rw c.in-Some.is at c.cut_at_space.ensures.rest) in
    let w = c.second_fault.ensures first size.1.0 in
    size_then xs first size.0 size.1 (verdict c.second_fault.result) _ f.params f.whole
    (subst (λ (q : List ℕ). Wrong size_only (first ∷ []) q (verdict c.second_fault.result)) c.cut_at_space-in-Some.ensures.word w)

pub returns-in-None : goal.returns-in-None
returns-in-None c =
    let xs = c.args.rest.now in
    let first = c.cut_at_space.result.0.now in
    let size = c.in_ok-size-in-32.ensures in
    size_alone xs first size.0 size.1 c.in_ok-size-in-32.size
    (parted-alone xs _ (behind_space xs c.in-32.len_at_least (omega arith)) first c.cut_at_space.ensures.word (rw c.in-None.is at c.cut_at_space.ensures.rest)) size.2
