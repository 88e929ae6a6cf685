-- Where the last "@" stands, and the rows of a list.
use Rattle.std.proofs.Common.{◌≡◌, ℕ, ◌+◌, ◌-◌, ◌<◌, ◌≤◌, Bool, true, false, cond, eqb, List, [], ◌∷◌, length, get_or, Some, Option, ◌≢◌, slice_index, refl, ap, ◌∙◌, arith}
use Rattle.std.specs.List.{find, suffix_len}
use Rattle.std.specs.Option.{option_map}
use Rattle.std.proofs.lemmas.List.Sums.{suffix_len_is}
use Rattle.std.proofs.lemmas.Bool.{eq-eqb, ne_eqb, not_from_true, not_from_false}
use Rattle.directory.specs.Rows.{domain_start, first_fit, not_at, octets_of}
use Rattle.directory.specs.declared.row.DirectoryRow.{DirectoryRow}

-- Behind the octet before n stands no "@".
after_last : (s : List ℕ) (n : ℕ) → n ≤ length s → (0 < n → slice_index s (n - 1) ≡ 64) → ((k : ℕ) → n ≤ k → k < length s → slice_index s k ≢ 64) → n ≡ domain_start s
after_last s n l h none =
    let e : suffix_len not_at s ≡ length s - n = suffix_len_is not_at s n 0 l
    (λ k a b. not_from_false (eqb (get_or s k 0) 64) (ne_eqb (get_or s k 0) 64 (none k a b)))
    (λ z. not_from_true (eqb (get_or s (n - 1) 0) 64) (eq-eqb (get_or s (n - 1) 0) 64 (h z))) in
    omega (arith, e)

pub last_found : (s : List ℕ) (at : ℕ) → at < length s → slice_index s at ≡ 64 → ((k : ℕ) → at < k → k < length s → slice_index s k ≢ 64) → at + 1 ≡ domain_start s
last_found s at l e none =
    let z : at + 1 - 1 ≡ at = omega arith in
    after_last s (at + 1) (omega arith) (λ _. ap (λ k. slice_index s k) z ∙ e) (λ k a b. none k (omega arith) b)

pub last_nowhere : (s : List ℕ) → ((k : ℕ) → k < length s → slice_index s k ≢ 64) → 0 ≡ domain_start s
last_nowhere s none = after_last s 0 (omega arith) (λ z. absurd (omega arith)) (λ k a b. none k b)

pub first_found : (fits : List ℕ → List ℕ → List ℕ → Bool) (text : List ℕ) (rows : List DirectoryRow) (local domain : List ℕ) →
    option_map (λ (row : DirectoryRow). row.mailbox) (find (λ row. fits (octets_of text row) local domain) rows) ≡ first_fit fits text rows local domain
first_found fits text [] local domain = refl
first_found fits text (row ∷ rows) local domain = go (fits (octets_of text row) local domain) (first_found fits text rows local domain)
  where
    F : Option DirectoryRow → Option ℕ
    F = option_map (λ (r : DirectoryRow). r.mailbox)

    go : (b : Bool) → F (find (λ r. fits (octets_of text r) local domain) rows) ≡ first_fit fits text rows local domain →
        F (cond b (Some row) (find (λ r. fits (octets_of text r) local domain) rows)) ≡ cond b (Some row.mailbox) (first_fit fits text rows local domain)
    go true h = refl
    go false h = h
