use Rattle.std.proofs.Common.{rules, ◌≡◌, ℕ, ◌+◌, ◌-◌, true, false, List, [], ◌∷◌, length, take, drop, Some, None, Option, Bor, MatchOption, nat_eq, sym, refl, ◌∙◌}
use lib.Pointwise.{pointwise}
use Rattle.std.proofs.lemmas.List.{take_rest}
use Rattle.std.proofs.lemmas.Bool.Decides.{Decides-eqb}
use Rattle.std.proofs.lemmas.Option.{MatchOption-at_some, MatchOption-at_none}
use Rattle.std.proofs.lemmas.Slice.Eq.{strip_prefix_is}
use Rattle.paths.specs.Paths.{Fault, PathAt}
use Rattle.paths.proofs.Reading.{no_local, no_domain, no_label, no_closing, the_path}
use Rattle.paths.proofs.path.read_path.Goals as goal

-- What `strip_prefix` says of one octet.
abbrev Strips : ℕ → List ℕ → Option (Bor (List ℕ)) → Type 0
Strips x s r =
    MatchOption r (pointwise nat_eq (take 1 s) (x ∷ []) ≡ false)
    (λ rest. (pointwise nat_eq (take 1 s) (x ∷ []) ≡ true) × (rest.now ≡ drop 1 s) × (length rest.now + 1 ≡ length s))

-- An octet that comes off the front of all octets from a place on stands there, and one that doesn't does not.
taken : (x : ℕ) (s : List ℕ) (n : ℕ) (r : Option (Bor (List ℕ))) (rest : Bor (List ℕ)) →
    Strips x (take (length s - n) (drop n s)) r → r ≡ Some rest → drop n s ≡ x ∷ rest.now
taken x s n r rest h e =
    sym (take_rest s n) ∙ MatchOption-at_some _ _ rest e (strip_prefix_is Decides-eqb (take (length s - n) (drop n s)) (x ∷ []) r h)

kept : (x : ℕ) (s : List ℕ) (n : ℕ) (r : Option (Bor (List ℕ))) →
    Strips x (take (length s - n) (drop n s)) r → r ≡ None → (ys : List ℕ) → drop n s ≡ x ∷ ys → ⊥
kept x s n r h e ys k =
    MatchOption-at_none _ _ e (strip_prefix_is Decides-eqb (take (length s - n) (drop n s)) (x ∷ []) r h) ys (take_rest s n ∙ k)

opened : (s : List ℕ) (r : Option (Bor (List ℕ))) (rest : Bor (List ℕ)) → Strips 60 s r → r ≡ Some rest → s ≡ 60 ∷ rest.now
opened s r rest h e = MatchOption-at_some _ _ rest e (strip_prefix_is Decides-eqb s (60 ∷ []) r h)

pub returns-in_err-local : goal.returns-in_err-local
returns-in_err-local c =
    let s = c.args.s.now in
    let rest = c.in_ok-rest.rest in
    let o = opened s c.strip_prefix.result rest c.strip_prefix.ensures.cases c.in_ok-rest.ensures.ok_part in
    let f : Fault PathAt s 2 = no_local s rest.now o (MatchOption-at_none _ _ c.in_err-local.ensures.ok_part c.local_part.ensures) in
    search rules

pub returns-in_err-after : goal.returns-in_err-after
returns-in_err-after c =
    let s = c.args.s.now in
    let rest = c.in_ok-rest.rest in
    let n = c.in_ok-local.local in
    let o = opened s c.strip_prefix.result rest c.strip_prefix.ensures.cases c.in_ok-rest.ensures.ok_part in
    let l = MatchOption-at_some _ _ n c.in_ok-local.ensures.ok_part c.local_part.ensures in
    let f : Fault PathAt s 3 =
    no_domain s rest.now o n l
    (λ ys m e _. kept 64 rest.now n c.strip_prefix-2.result c.strip_prefix-2.ensures.cases c.in_err-after.ensures.ok_part ys e) in
    search rules

pub returns-in_err-size : goal.returns-in_err-size
returns-in_err-size c =
    let s = c.args.s.now in
    let rest = c.in_ok-rest.rest in
    let n = c.in_ok-local.local in
    let after = c.in_ok-after.after in
    let o = opened s c.strip_prefix.result rest c.strip_prefix.ensures.cases c.in_ok-rest.ensures.ok_part in
    let l = MatchOption-at_some _ _ n c.in_ok-local.ensures.ok_part c.local_part.ensures in
    let a = taken 64 rest.now n c.strip_prefix-2.result after c.strip_prefix-2.ensures.cases c.in_ok-after.ensures.ok_part in
    let f : Fault PathAt s 3 =
    no_label s rest.now o n l after.now a (MatchOption-at_none _ _ c.in_err-size.ensures.ok_part c.domain.ensures) in
    search rules

pub returns-in_err-ok_or : goal.returns-in_err-ok_or
returns-in_err-ok_or c =
    let s = c.args.s.now in
    let rest = c.in_ok-rest.rest in
    let n = c.in_ok-local.local in
    let after = c.in_ok-after.after in
    let m = c.in_ok-size.size in
    let o = opened s c.strip_prefix.result rest c.strip_prefix.ensures.cases c.in_ok-rest.ensures.ok_part in
    let l = MatchOption-at_some _ _ n c.in_ok-local.ensures.ok_part c.local_part.ensures in
    let a = taken 64 rest.now n c.strip_prefix-2.result after c.strip_prefix-2.ensures.cases c.in_ok-after.ensures.ok_part in
    let d = MatchOption-at_some _ _ m c.in_ok-size.ensures.ok_part c.domain.ensures in
    let f : Fault PathAt s 4 =
    no_closing s rest.now o n l after.now a m d
    (kept 62 after.now m c.strip_prefix-3.result c.strip_prefix-3.ensures.cases c.in_err-ok_or.ensures.ok_part) in
    search rules

pub returns : goal.returns
returns c =
    let s = c.args.s.now in
    let rest = c.in_ok-rest.rest in
    let n = c.in_ok-local.local in
    let after = c.in_ok-after.after in
    let m = c.in_ok-size.size in
    let o = opened s c.strip_prefix.result rest c.strip_prefix.ensures.cases c.in_ok-rest.ensures.ok_part in
    let l = MatchOption-at_some _ _ n c.in_ok-local.ensures.ok_part c.local_part.ensures in
    let a = taken 64 rest.now n c.strip_prefix-2.result after c.strip_prefix-2.ensures.cases c.in_ok-after.ensures.ok_part in
    let d = MatchOption-at_some _ _ m c.in_ok-size.ensures.ok_part c.domain.ensures in
    let z = taken 62 after.now m c.strip_prefix-3.result c.in_ok-ok_or.field-0 c.strip_prefix-3.ensures.cases c.in_ok-ok_or.ensures.ok_part in
    the_path s rest.now o n l after.now a m d c.in_ok-ok_or.field-0.now z
    (record { at = 1 + n; end = n + m + 3 }) refl refl
