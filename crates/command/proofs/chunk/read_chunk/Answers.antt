use Rattle.std.proofs.cmp.Tests.{cases_from_iff}
use Rattle.std.proofs.Common.{◌≡◌, ℕ, List, [], true, false, map, length, drop, sym, ap, ◌∙◌, subst, arith}
use Rattle.std.specs.Char.{to_ascii_lowercase, is_ascii_digit}
use Rattle.std.specs.List.{prefix_len}
use Rattle.std.proofs.lemmas.List.{nil_from_length}
use Rattle.command.specs.Chunks.{IsChunk}
use Rattle.command.specs.Numerals.{IsNumeral}
use Rattle.command.specs.declared.chunk.Chunk.{Chunk}
use Rattle.command.proofs.Counts.{chunk_ends, chunk_only, chunk_size, no_tail}
use Rattle.command.proofs.chunk.read_chunk.Goals as goal

pub returns-in_err-size : goal.returns-in_err-size
returns-in_err-size c =
    let xs = c.args.argument.now in
    let none : (d : Chunk) → IsChunk xs d → ⊥ = λ (d : Chunk) (h : IsChunk xs d). c.in_err-size.ensures d.size (subst (λ (v : List ℕ). IsNumeral 9 v d.size) (sym c.cut_digits.ensures.digits) (chunk_size xs d h)) in
    rw c.from_residual.ensures none

pub returns-then-is_empty : goal.returns-then-is_empty
returns-then-is_empty c =
    let xs = c.args.argument.now in
    let n = c.in_ok-size.ensures in
    let e : c.cut_digits.result.1.now ≡ [] = nil_from_length c.cut_digits.result.1.now (grind arith) in
    chunk_only xs c.in_ok-size.size n.0 false (subst (λ (v : List ℕ). IsNumeral 9 v n.0) c.cut_digits.ensures.digits n.1) n.2 (sym c.cut_digits.ensures.rest ∙ e)

pub returns-then-eq_ignore_ascii_case : goal.returns-then-eq_ignore_ascii_case
returns-then-eq_ignore_ascii_case c =
    let xs = c.args.argument.now in
    let n = c.in_ok-size.ensures in
    chunk_only xs c.in_ok-size.size n.0 true (subst (λ (v : List ℕ). IsNumeral 9 v n.0) c.cut_digits.ensures.digits n.1) n.2
    (ap (map to_ascii_lowercase) (sym c.cut_digits.ensures.rest) ∙ cases_from_iff c.if-eq_ignore_ascii_case.ensures.test)

pub returns : goal.returns
returns c d h =
    let xs = c.args.argument.now in
    no_tail d.last (drop (prefix_len is_ascii_digit xs) xs)
    (λ z. let e = ap length (c.cut_digits.ensures.rest ∙ z) in grind arith)
    (λ z. cases_from_iff c.if-eq_ignore_ascii_case.ensures.test (ap (map to_ascii_lowercase) c.cut_digits.ensures.rest ∙ z))
    (chunk_ends xs d h)
