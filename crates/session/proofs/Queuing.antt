-- The replies that wait, by how many there are and how many were written.
use Rattle.std.proofs.Common.{◌≡◌, ℕ, ◌+◌, ◌-◌, ◌<◌, ◌≤◌, List, [], length, get_or, take, drop, Some, sym, ap, ◌∙◌, arith, drop-cons}
use Rattle.std.proofs.lemmas.List.{drop_all, drop-drop, get_or-take, length-drop, length-take-le}
use Rattle.protocol.specs.declared.reply.Reply.{Reply}
use Rattle.session.specs.Queues.{first}

module _ (rs : List Reply) (c s : ℕ) (n : length rs ≡ 100) (few : c ≤ 100) where
  pub wait_count : c - s ≡ length (drop s (take c rs))
  wait_count = omega (arith, length-drop s (take c rs), length-take-le c rs (omega arith))

  pub wait_none : c ≤ s → drop s (take c rs) ≡ []
  wait_none h = drop_all s (take c rs) (omega (arith, length-take-le c rs (omega arith)))

  pub wait_first : (d : Reply) → s < c → Some (get_or rs s d) ≡ first (drop s (take c rs))
  wait_first d h =
      let l : s < length (take c rs) = omega (arith, length-take-le c rs (omega arith)) in
      sym (ap first (drop-cons (take c rs) s d l) ∙ ap (λ (r : Reply). Some r) (get_or-take c rs s d h))

  pub wait_passed : drop (s + 1) (take c rs) ≡ drop 1 (drop s (take c rs))
  wait_passed = sym (drop-drop 1 s (take c rs))
