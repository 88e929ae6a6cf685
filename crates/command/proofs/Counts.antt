-- Numbers in digits, and the chunk that they announce.
use Rattle.std.proofs.Common.{◌≡◌, ℕ, ◌+◌, ◌-◌, ◌*◌, ◌^◌, ◌<◌, ◌≤◌, Bool, true, false, List, [], ◌∷◌, ◌++◌, map, length, get_or, take, drop, codes, sym, refl, ap, ◌∙◌, subst, arith, rules}
use Rattle.std.specs.Char.{is_ascii_digit, digit_value, to_ascii_lowercase}
use Rattle.std.specs.List.{fold, list_all, prefix_len}
use Rattle.std.specs.Str.Parse.{digits_value_after}
use Rattle.std.proofs.ByRecursion.{Decides-by_and}
use Rattle.std.proofs.lemmas.List.{length-map, take-append-drop, take_at, drop_at}
use Rattle.std.proofs.lemmas.Str.Parse.{IsDigitsTest, numerals_by_value, digits_value_short}
use Rattle.std.proofs.lemmas.Bool.Decides.{nat_tests}
use Rattle.address.specs.Words.{AllIn, run}
use Rattle.address.specs.Parts.{Only}
use Rattle.address.proofs.Runs.{leading_is, stops_at}
use Rattle.command.specs.Chunks.{IsChunk, Tail}
use Rattle.command.specs.Numerals.{IsNumeral, decimal_value, kept}
use Rattle.command.specs.declared.chunk.Chunk.{Chunk}

digit_value_lem : (x : ℕ) → is_ascii_digit x ≡ true → digit_value x ≡ x - 48
digit_value_lem x h = grind (arith, nat_tests)

-- A number as it is kept, with one more digit.
abbrev pub keep : ℕ → ℕ → ℕ
keep n x = kept (kept (n * 10) + (x - 48))

kept_more : (n x : ℕ) → is_ascii_digit x ≡ true → keep (kept n) x ≡ kept (n * 10 + digit_value x)
kept_more n x h = omega (arith, digit_value_lem x h)

pub fold_keeps : (n : ℕ) (xs : List ℕ) → AllIn is_ascii_digit xs → fold keep (kept n) xs ≡ kept (digits_value_after 10 n xs)
fold_keeps n [] h = refl
fold_keeps n (x ∷ xs) h = ap (λ k. fold keep k xs) (kept_more n x h.0) ∙ fold_keeps (n * 10 + digit_value x) xs h.1

pub all_digits : (xs : List ℕ) → list_all is_ascii_digit xs ≡ true → AllIn is_ascii_digit xs
all_digits xs h = (Decides-by_and is_ascii_digit (λ x. is_ascii_digit x ≡ true) (list_all is_ascii_digit) (λ x. (λ e. e, λ e. e)) refl (λ x xs. refl) xs).0 h

tells_digits : IsDigitsTest (AllIn is_ascii_digit)
tells_digits = search rules

few_fit : (xs : List ℕ) → AllIn is_ascii_digit xs → length xs ≤ 9 → decimal_value xs < 10 ^ 9
few_fit xs h l = digits_value_short (numerals_by_value (AllIn is_ascii_digit) tells_digits) xs 9 h l

-- What stands behind a chunk's digits begins with no digit.
lower_space : (x : ℕ) → to_ascii_lowercase x ≡ 32 → is_ascii_digit x ≡ false
lower_space x h = grind (arith, nat_tests)

tail_stops : (b : Bool) (t : List ℕ) → Tail b t → prefix_len is_ascii_digit t ≡ 0
tail_stops true [] h = refl
tail_stops true (x ∷ t) h = stops_at is_ascii_digit x t (lower_space x (ap (λ v. get_or v 0 0) h))
tail_stops false t h = ap (prefix_len is_ascii_digit) h

tails_same : (a b : Bool) (t : List ℕ) → Tail a t → Tail b t → a ≡ b
tails_same true true t h k = refl
tails_same false false t h k = refl
tails_same true false t h k = absurd (omega (arith, ap length h, length-map t to_ascii_lowercase, ap length k))
tails_same false true t h k = absurd (omega (arith, ap length k, length-map t to_ascii_lowercase, ap length h))

pub no_tail : (b : Bool) (t : List ℕ) → (t ≡ [] → ⊥) → (map to_ascii_lowercase t ≡ map to_ascii_lowercase (codes " LAST") → ⊥) → Tail b t → ⊥
no_tail true t h k = k
no_tail false t h k = h

abbrev chunk : ℕ → Bool → Chunk
chunk n b = record { size = n; last = b }

-- The digits at the front, and what stands behind them.
module _ (xs : List ℕ) where
  abbrev count : ℕ
  count = prefix_len is_ascii_digit xs

  abbrev front : List ℕ
  front = run is_ascii_digit xs

  front-whole : xs ≡ front ++ drop count xs
  front-whole = sym (take-append-drop count xs)

  chunk-count : (c : Chunk) (h : IsChunk xs c) → length h.digits ≡ count
  chunk-count c h =
      sym (ap (prefix_len is_ascii_digit) h.spelt ∙ leading_is is_ascii_digit h.digits h.tail h.size.digits (tail_stops c.last h.tail h.last))

  chunk-digits : (c : Chunk) (h : IsChunk xs c) → h.digits ≡ front
  chunk-digits c h = sym (take_at h.digits h.tail count (chunk-count c h)) ∙ ap (take count) (sym h.spelt)

  chunk-tail : (c : Chunk) (h : IsChunk xs c) → h.tail ≡ drop count xs
  chunk-tail c h = sym (drop_at h.digits h.tail count (chunk-count c h)) ∙ ap (drop count) (sym h.spelt)

  pub chunk_size : (c : Chunk) → IsChunk xs c → IsNumeral 9 front c.size
  chunk_size c h = subst (λ (v : List ℕ). IsNumeral 9 v c.size) (chunk-digits c h) h.size

  pub chunk_ends : (c : Chunk) → IsChunk xs c → Tail c.last (drop count xs)
  chunk_ends c h = subst (Tail c.last) (chunk-tail c h) h.last

  pub chunk_only : (k n : ℕ) (b : Bool) → IsNumeral 9 front n → k ≡ kept n → Tail b (drop count xs) → Only (IsChunk xs) (chunk k b)
  chunk_only k n b h e t =
      let v : n ≡ k = omega (arith, e, h.writes, few_fit front h.digits h.few) in
      record {
        holds = record { digits = front; tail = drop count xs; spelt = front-whole; size = subst (IsNumeral 9 front) v h; last = t };
        alone = λ c g.
            let f : c.size ≡ k = (chunk_size c g).writes ∙ sym h.writes ∙ v in
            let l : c.last ≡ b = tails_same c.last b (drop count xs) (chunk_ends c g) t in
            ap (λ (m : ℕ). chunk m c.last) f ∙ ap (chunk k) l;
      }
