-- What entries come to, as a spool tells of them and as its calls alter them.
use Rattle.std.proofs.Common.{◌≡◌, ℕ, ◌+◌, ◌≤◌, cond, eqb, ltb, List, [], length, get_or, take, Some, None, Ok, sum_by, Option, sym, refl, ap, ◌∙◌, arith}
use Rattle.std.specs.List.{slice_get, remove}
use Rattle.std.proofs.lemmas.Option.{get_or_from_slice_get, slice_get-get_or}
use Rattle.std.proofs.lemmas.List.Sums.{sum_by-append, sum_by-remove, sum_by_more}
use Rattle.std.proofs.lemmas.Bool.{cond_both, cond-false, cond-true, eq-eqb, ltb-true, ne_eqb}
use Rattle.spool.specs.Entries.{Entry}
use Rattle.spool.specs.Rules.{opened, remains, staged, summary, tells}
use Rattle.spool.specs.declared.entry.Summary.{Summary}
use Rattle.spool.proofs.Places.{nth-within}
use Rattle.spool.proofs.Told.{told-entry, told_at}
use Rattle.quota.specs.Shares.{both, entries_of, octets_of, share}

-- The entries before a place and the one that is told of there, which counts where it is for the mailbox.
module _ (w : Summary → ℕ) (m : ℕ) (es : List Entry) (at : ℕ) (s : Summary) (is : Ok s ≡ tells es at) where
  more : sum_by (share (λ e. w (summary e)) m) (take (at + 1) es) ≡ sum_by (share (λ e. w (summary e)) m) (take at es) + cond (eqb s.mailbox m) (w s) 0
  more =
      let t = told-entry es at s is in
      sum_by_more (share (λ e. w (summary e)) m) es at t.0 (told_at es at s is)
      ∙ ap (λ v. sum_by (share (λ e. w (summary e)) m) (take at es) + cond (eqb v.mailbox m) (w v) 0) (ap summary (get_or_from_slice_get es at t.0 t.0 t.1.0) ∙ sym t.1.1)

  pub counted : s.mailbox ≡ m → sum_by (share (λ e. w (summary e)) m) (take (at + 1) es) ≡ sum_by (share (λ e. w (summary e)) m) (take at es) + w s
  counted e = omega (arith, more, cond-true (eqb s.mailbox m) (w s) 0 (eq-eqb _ _ e))

  pub passed : (s.mailbox ≡ m → ⊥) → sum_by (share (λ e. w (summary e)) m) (take (at + 1) es) ≡ sum_by (share (λ e. w (summary e)) m) (take at es)
  passed ne = omega (arith, more, cond-false (eqb s.mailbox m) (w s) 0 (ne_eqb _ _ ne))

-- What is left once an entry is taken out.
pub sum_removed : (f : Entry → ℕ) (es : List Entry) (at : ℕ) (e : Entry) → slice_get es at ≡ Some e → sum_by f (remove es at) + f e ≡ sum_by f es
sum_removed f es at e h = omega (arith, sum_by-remove f es at e (nth-within es at e h), ap f (get_or_from_slice_get es at e e h))

pub sum-remains : (f : Entry → ℕ) (l : Option (List Entry)) (h : List Entry) (at : ℕ) → sum_by f (remains l h at) ≤ sum_by f h
sum-remains f None h at =
    let d : Entry = record { mailbox = 0; payload = [] } in
    cond_both (ltb at (length h)) (remove h at) h (λ v. sum_by f v ≤ sum_by f h)
    (λ t. omega (arith, sum_removed f h at (get_or h at d) (slice_get-get_or h at d (ltb-true at (length h) t))))
    (λ t. omega arith)
sum-remains f (Some es) h at = omega arith

pub staged-opened : (l : Option (List Entry)) → staged (opened l) ≡ staged l
staged-opened None = refl
staged-opened (Some es) = refl

-- What a mailbox has is what is held for it and what is staged.
pub parts : (h : List Entry) (l : Option (List Entry)) (m : ℕ) → (entries_of m (both h l) ≡ entries_of m h + entries_of m (staged l)) × (octets_of m (both h l) ≡ octets_of m h + octets_of m (staged l))
parts h l m = (sum_by-append (share (λ e. 1) m) h (staged l), sum_by-append (share (λ e. length e.payload) m) h (staged l))
