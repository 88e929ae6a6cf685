-- Octets at the front of an area.
use Rattle.std.proofs.Common.{◌≡◌, ℕ, ◌+◌, ◌≤◌, Bool, true, false, cond, leb, List, ◌++◌, length, take, drop, Some, None, Option, sym, refl, ap, ◌∙◌, zero-add, arith}
use Rattle.std.specs.Option.{option_map}
use Rattle.std.proofs.lemmas.Bool.{cond-false, cond-true, leb-true}
use Rattle.std.proofs.lemmas.List.{length-append, length-drop, length-take, length-take-le, take_all, take-append-drop, take-append-le}
use Rattle.protocol.specs.Outputs.{overlaid}
use Rattle.protocol.proofs.Laying.{told_is}
use Rattle.protocol.proofs.Overlays.{overlaid-both}
use Rattle.protocol.specs.DataParts.{Laid}
use Rattle.session.specs.Turns.{laid, within}

pub laid-fits : (was q : List ℕ) → length q ≤ length was → laid was q ≡ q ++ drop (length q) was
laid-fits was q h = ap (λ (xs : List ℕ). xs ++ drop (length q) was) (take_all (length was) q h)

pub laid-over : (was q : List ℕ) → length q ≤ length was → laid was q ≡ overlaid was 0 q
laid-over was q h = laid-fits was q h ∙ ap (λ (k : ℕ). q ++ drop k was) (sym (zero-add (length q)))

pub laid_more : (was q run : List ℕ) → length q + length run ≤ length was → overlaid (laid was q) (length q) run ≡ laid was (q ++ run)
laid_more was q run h =
    ap (λ (xs : List ℕ). overlaid xs (length q) run) (laid-over was q (omega arith))
    ∙ ap (λ (k : ℕ). overlaid (overlaid was 0 q) k run) (sym (zero-add (length q)))
    ∙ overlaid-both was q run 0 (omega arith)
    ∙ sym (laid-over was (q ++ run) (omega (arith, length-append q run)))

pub laid-own : (was : List ℕ) (k : ℕ) → k ≤ length was → laid was (take k was) ≡ was
laid-own was k h =
    let n : length (take k was) ≡ k = length-take-le k was h in
    laid-fits was (take k was) (omega arith) ∙ ap (λ (j : ℕ). take k was ++ drop j was) n ∙ take-append-drop k was

pub laid_long : (was q : List ℕ) → length (laid was q) ≡ length was
laid_long was q = omega (arith, length-append (take (length was) q) (drop (length q) was), length-take (length was) q, length-drop (length q) was)

pub laid_front : (was q : List ℕ) → length q ≤ length was → take (length q) (laid was q) ≡ q
laid_front was q h =
    ap (take (length q)) (laid-fits was q h) ∙ take-append-le (length q) q (drop (length q) was) (omega arith) ∙ take_all (length q) q (omega arith)

-- A payload as an area holds it, where it does not go past the area.
pub within_is : (p was area : List ℕ) (kept : ℕ) (over : Bool) (size : ℕ) → length was ≡ size → Laid p was area kept over → within size p ≡ option_map (λ n. take n area) (cond over None (Some kept))
within_is p was area kept over size w l =
    ap (λ (n : ℕ). within n p) (sym w) ∙ either (leb (length p) (length was)) refl ∙ sym (ap (option_map (λ n. take n area)) (told_is p was area kept over l))
  where
    either : (b : Bool) → leb (length p) (length was) ≡ b → cond (leb (length p) (length was)) (Some p) None ≡ option_map (λ n. take n area) (cond (leb (length p) (length was)) (Some (length p)) None)
    either true h =
        cond-true (leb (length p) (length was)) (Some p) None h
        ∙ ap (λ (q : List ℕ). Some q) (sym (ap (take (length p)) l.holds ∙ laid_front was p (leb-true _ _ h)))
        ∙ sym (ap (option_map (λ n. take n area)) (cond-true (leb (length p) (length was)) (Some (length p)) None h))
    either false h =
        cond-false (leb (length p) (length was)) (Some p) None h
        ∙ sym (ap (option_map (λ n. take n area)) (cond-false (leb (length p) (length was)) (Some (length p)) None h))
