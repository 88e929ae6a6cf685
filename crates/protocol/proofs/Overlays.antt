-- Octets put into a slice, one after another.
use Rattle.std.proofs.Common.{◌≡◌, ℕ, ◌+◌, ◌<◌, ◌≤◌, List, ◌++◌, length, get_or, take, drop, Bor, sym, ap, ◌∙◌, append_assoc, arith}
use Rattle.std.specs.List.{flat_map}
use Rattle.std.proofs.Concat.{flat_map-take_more}
use Rattle.std.proofs.lemmas.List.Folds.{length-flat_map-take}
use Rattle.std.proofs.lemmas.List.{length-append, length-take-le, take_at, drop_at, drop-drop}
use Rattle.protocol.specs.Outputs.{overlaid}

pub overlaid-both : (was xs ys : List ℕ) (at : ℕ) → at + length xs ≤ length was → overlaid (overlaid was at xs) (at + length xs) ys ≡ overlaid was at (xs ++ ys)
overlaid-both was xs ys at le =
    let front = take at was ++ xs in
    let tail = drop (at + length xs) was in
    let n : length front ≡ at + length xs = length-append (take at was) xs ∙ ap (λ k. k + length xs) (length-take-le at was (omega arith)) in
    let is : overlaid was at xs ≡ front ++ tail = sym (append_assoc (take at was) xs tail) in
    let kept : take (at + length xs) (overlaid was at xs) ≡ front = ap (take (at + length xs)) is ∙ take_at front tail (at + length xs) n in
    let left : drop (at + length xs) (overlaid was at xs) ≡ tail = ap (drop (at + length xs)) is ∙ drop_at front tail (at + length xs) n in
    let m : at + length xs + length ys ≡ at + length (xs ++ ys) = omega (arith, length-append xs ys) in
    let rest : drop (at + length xs + length ys) (overlaid was at xs) ≡ drop (at + length (xs ++ ys)) was =
    sym (drop-drop (length ys) (at + length xs) (overlaid was at xs)) ∙ ap (drop (length ys)) left ∙ drop-drop (length ys) (at + length xs) was ∙ ap (λ k. drop k was) m
    in
    ap (λ t. t ++ (ys ++ drop (at + length xs + length ys) (overlaid was at xs))) kept ∙ ap (λ t. front ++ (ys ++ t)) rest
    ∙ append_assoc (take at was) xs (ys ++ drop (at + length (xs ++ ys)) was)
    ∙ ap (λ t. take at was ++ t) (sym (append_assoc xs ys (drop (at + length (xs ++ ys)) was)))

-- The slice after some octets were put, and the place behind them.
pub record Put (was out xs : List ℕ) (at end : ℕ) : Type 0 where
  pub is : out ≡ overlaid was at xs
  pub place : end ≡ at + length xs

-- One part more.
pub put_next : (parts : List (Bor (List ℕ))) (d : Bor (List ℕ)) (i : ℕ) (was out out' : List ℕ) (at end end' : ℕ) → i < length parts → at + length (flat_map (λ part. part.now) parts) ≤ length was → Put was out (flat_map (λ part. part.now) (take i parts)) at end → out' ≡ overlaid out end (get_or parts i d).now → end' ≡ end + length (get_or parts i d).now → Put was out' (flat_map (λ part. part.now) (take (i + 1) parts)) at end'
put_next parts d i was out out' at end end' lt room p e q =
    let now : Bor (List ℕ) → List ℕ = λ part. part.now in
    let n = length-flat_map-take now parts i d lt in
    let k : end ≡ at + length (flat_map now (take i parts)) = p.place in
    let grown : flat_map now (take (i + 1) parts) ≡ flat_map now (take i parts) ++ (get_or parts i d).now = sym (flat_map-take_more now parts i d lt) in
    record {
      is = e ∙ ap (λ t. overlaid t end (now (get_or parts i d))) p.is ∙ ap (λ j. overlaid (overlaid was at (flat_map now (take i parts))) j (now (get_or parts i d))) k
          ∙ overlaid-both was (flat_map now (take i parts)) (now (get_or parts i d)) at (omega arith) ∙ ap (overlaid was at) (sym grown);
      place = omega (arith, ap length grown, length-append (flat_map now (take i parts)) (now (get_or parts i d)));
    }
