use Rattle.std.proofs.Common.{rules, ◌≡◌, take, Some, MatchOption}
use Rattle.std.specs.List.{prefix_len}
use Rattle.address.specs.Classes.{atext}
use Rattle.address.specs.Words.{Dotted, or_dot, run}
use Rattle.address.specs.declared.words.Word.TheVariants.{Atom}
use Rattle.address.proofs.Fronts.{weaken, either_form}
use Rattle.address.proofs.parts.local_form.Goals as goal

pub returns : goal.returns
returns c =
    let s = c.args.s.now in
    let f : MatchOption c.quoted.result
    (MatchOption c.or_else.result (Dotted Atom (run (or_dot atext) s) → ⊥) (λ n. (n ≡ prefix_len (or_dot atext) s) × Dotted Atom (take n s)))
    (λ n. c.or_else.result ≡ Some n) = weaken c.quoted.result (λ h. search rules) (λ n e. e) c.or_else.ensures in
    either_form s c.quoted.result c.or_else.result c.quoted.ensures f
