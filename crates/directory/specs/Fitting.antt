-- Rows that fit, and the parts of an address.
use Rattle.std.specs.Prelude.{◌≡◌, ℕ, suc, ◌+◌, ◌-◌, ◌<◌, ◌≤◌, Bool, cond, ◌&&◌, List, [], ◌∷◌, ◌++◌, map, length, get_or, take, drop, IfSome, Some, codes, Decides, Option, ◌≢◌, slice_index, slice_index_or}
use Rattle.std.proofs.Common.{arith, sym, ap, subst, ◌∙◌}
use Rattle.std.specs.Char.{to_ascii_lowercase}
use Rattle.std.specs.Str.{bytes_eq}
use Rattle.std.proofs.lemmas.Slice.Eq.{bytes_eq-Decides}
use Rattle.std.proofs.lemmas.List.{take_rest, take-append-drop, drop_more, at_drop_more}
use Rattle.std.proofs.lemmas.Bool.{cond_both}
use Rattle.std.proofs.lemmas.Bool.Decides.{same_from_decides, Decides-and, Decides-or}
use Rattle.address.specs.Comparison.{SameDomain, SameLocal, same_domain, same_local, postmaster}
use Rattle.directory.specs.Rows.{before_at, behind_at, domain_start, octets_of, first_fit}
use Rattle.directory.specs.declared.row.DirectoryRow.{DirectoryRow}

pub same_domain_is : (r : Bool) (xs ys : List ℕ) → Decides r (SameDomain xs ys) → r ≡ same_domain xs ys
same_domain_is r xs ys h = same_from_decides r (same_domain xs ys) h (bytes_eq-Decides (map to_ascii_lowercase xs) (map to_ascii_lowercase ys))

pub same_local_is : (r : Bool) (xs ys : List ℕ) → Decides r (SameLocal xs ys) → r ≡ same_local xs ys
same_local_is r xs ys h =
    same_from_decides r (same_local xs ys) h
    (Decides-or (bytes_eq xs ys) (postmaster xs && postmaster ys) (bytes_eq-Decides xs ys)
    (Decides-and (postmaster xs) (postmaster ys)
    (bytes_eq-Decides (map to_ascii_lowercase xs) (codes "postmaster")) (bytes_eq-Decides (map to_ascii_lowercase ys) (codes "postmaster"))))

module _ (s : List ℕ) (n : ℕ) (h : n ≡ domain_start s) where
  pub cut-before : take (n - 1 - 0) s ≡ before_at s
  cut-before = let e : n - 1 - 0 ≡ domain_start s - 1 = omega (arith, h) in ap (λ k. take k s) e

  pub cut-behind : take (length s - n) (drop n s) ≡ behind_at s
  cut-behind = take_rest s n ∙ ap (λ k. drop k s) h

  pub cut_split : (n ≢ 0) → n ≤ length s → slice_index s (n - 1) ≡ 64 → s ≡ before_at s ++ 64 ∷ behind_at s
  cut_split z l e =
      let b : n - 1 < length s = omega arith in
      let f : n - 1 + 1 ≡ n = omega arith in
      let g : s ≡ take (n - 1) s ++ 64 ∷ drop n s =
      sym (take-append-drop (n - 1) s)
      ∙ ap (λ v. take (n - 1) s ++ v) (drop_more s (n - 1) 0 b ∙ ap (λ x. x ∷ drop (n - 1 + 1) s) e ∙ ap (λ k. 64 ∷ drop k s) f) in
      subst (λ (k : ℕ). s ≡ take (k - 1) s ++ 64 ∷ drop k s) h g

-- A mailbox that is told is a row's.
pub first_below : (fits : List ℕ → List ℕ → List ℕ → Bool) (text : List ℕ) (rows : List DirectoryRow) (local domain : List ℕ) →
    ((k : ℕ) (d : DirectoryRow) → k < length rows → (get_or rows k d).mailbox < 64) →
    IfSome (first_fit fits text rows local domain) (λ m. m < 64)
first_below fits text [] local domain h = tt
first_below fits text (row ∷ rows) local domain h =
    let P : Option ℕ → Type 0 = λ o. IfSome o (λ m. m < 64) in
    cond_both (fits (octets_of text row) local domain) (Some row.mailbox) (first_fit fits text rows local domain) P
    (λ _. h 0 row (omega arith))
    (λ _. first_below fits text rows local domain (λ k d l. h (suc k) d (omega arith)))

-- What a read past the end of the rows would give.
abbrev pub no_row : DirectoryRow
no_row = record { offset = 0; length = 0; mailbox = 0 }

-- One row on.
pub first_step : (fits : List ℕ → List ℕ → List ℕ → Bool) (text : List ℕ) (rows : List DirectoryRow) (local domain : List ℕ) (i : ℕ) → i < length rows →
    (xs : List ℕ) → xs ≡ octets_of text (slice_index_or rows i no_row) → (b : Bool) → b ≡ fits xs local domain →
    first_fit fits text (drop i rows) local domain ≡ cond b (Some (get_or rows i no_row).mailbox) (first_fit fits text (drop (i + 1) rows) local domain)
first_step fits text rows local domain i l xs e b h =
    let F : List DirectoryRow → Option ℕ = λ v. first_fit fits text v local domain in
    at_drop_more F rows i no_row l
    ∙ ap (λ t. cond t (Some (get_or rows i no_row).mailbox) (F (drop (i + 1) rows))) (ap (λ v. fits v local domain) (sym e) ∙ sym h)
