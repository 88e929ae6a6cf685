use Rattle.std.proofs.Common.{rules, ◌≡◌, ◌<◌, length, get_or, take, sym, ap, ◌∙◌, subst, arith}
use Rattle.std.proofs.lemmas.Bool.{true≢false}
use Rattle.std.proofs.lemmas.List.{take_rest}
use Rattle.std.proofs.lemmas.List.Sums.{prefix_len-le-length}
use Rattle.address.specs.Words.{AllIn, IsWord, word_octet}
use Rattle.address.proofs.Runs.{Left, dotless, run_passes, none_left, more_left, done_left}
use Rattle.address.proofs.words.dotted.Goals as goal
use Rattle.address.proofs.words.dotted.Goals.{in_default-via-then-behind-lt1, in_default-via-else-behind-lt1+in_default-1}

pub split_at-requires : goal.split_at-requires
split_at-requires c = omega (arith, c.run.ensures, prefix_len-le-length (word_octet c.args.word) c.loop-behind.rest.now)

pub is-requires : goal.is-requires
is-requires c =
    let p = word_octet c.args.word in
    let rest = c.loop-behind.rest.now in
    subst (AllIn p) (sym (c.split_at.ensures.front ∙ ap (λ n. take n rest) c.run.ensures)) (run_passes p rest)

pub returns-then-not-is : goal.returns-then-not-is
returns-then-not-is c =
    let w = c.args.word in
    let rest = c.loop-behind.rest.now in
    let e = c.run.ensures in
    none_left (word_octet w) (dotless w) (IsWord w) c.args.s.now rest c.split_at.result.0.now c.split_at.result.1.now c.loop-behind.invariant
    (rw (← e) c.split_at.ensures.front) (rw (← e) c.split_at.ensures.back)
    (λ h. true≢false (sym (c.is.ensures.1 h) ∙ c.if-not-is.true))

pub loop-behind-preserved : goal.loop-behind-preserved
loop-behind-preserved c =
    let w = c.args.word in
    let rest = c.loop-behind.rest.now in
    let behind = c.split_at.result.1.now in
    let e = c.run.ensures in
    let d : get_or behind 0 0 ≡ 46 = search rules in
    subst (Left (word_octet w) (IsWord w) c.args.s.now) (sym (take_rest behind 1))
    (more_left (word_octet w) (dotless w) (IsWord w) c.args.s.now rest c.split_at.result.0.now behind c.loop-behind.invariant
    (rw (← e) c.split_at.ensures.front) (rw (← e) c.split_at.ensures.back)
    (c.is.ensures.0 c.if-not-is.false) c.in-46.len_at_least d)

pub returns-in_default : goal.returns-in_default
returns-in_default c =
    let w = c.args.word in
    let rest = c.loop-behind.rest.now in
    let behind = c.split_at.result.1.now in
    let e = c.run.ensures in
    let n : 0 < length behind → get_or behind 0 0 ≡ 46 → ⊥ =
    elim c.in_default.branch [
      | in_default-via-then-behind-lt1 w ↦ search rules
      | in_default-via-else-behind-lt1+in_default-1 w ↦ search rules
    ] in
    done_left (word_octet w) (dotless w) (IsWord w) c.args.s.now rest c.split_at.result.0.now behind c.loop-behind.invariant
    (rw (← e) c.split_at.ensures.front) (rw (← e) c.split_at.ensures.back)
    (c.is.ensures.0 c.if-not-is.false) n
