-- The search for a mailbox's earliest entry, place by place.
use Rattle.std.proofs.Common.{◌≡◌, ℕ, suc, ◌+◌, eqb, List, [], ◌∷◌, ◌++◌, take, drop, Some, sym, ap, ◌∙◌, append_assoc, add-one}
use Rattle.std.specs.List.{slice_get, remove}
use Rattle.std.proofs.lemmas.Bool.{cond-true, cond-false, eq-eqb, ne_eqb}
use Rattle.spool.specs.Entries.{Entry}
use Rattle.spool.proofs.Places.{drop_nth, take_nth}
use Rattle.filing.specs.Collecting.{earliest, without}

module _ (m : ℕ) (es : List Entry) (at : ℕ) (e : Entry) (is : slice_get es at ≡ Some e) where
  -- An entry of another mailbox is passed over.
  pub past-earliest : (e.mailbox ≡ m → ⊥) → earliest m (drop at es) ≡ earliest m (drop (at + 1) es)
  past-earliest ne =
      ap (earliest m) (drop_nth es at e is) ∙ cond-false (eqb e.mailbox m) _ _ (ne_eqb _ _ ne) ∙ ap (λ v. earliest m (drop v es)) (sym (add-one at))

  pub past-without : (e.mailbox ≡ m → ⊥) → take at es ++ without m (drop at es) ≡ take (at + 1) es ++ without m (drop (at + 1) es)
  past-without ne =
      ap (λ v. take at es ++ without m v) (drop_nth es at e is)
      ∙ ap (λ v. take at es ++ v) (cond-false (eqb e.mailbox m) (drop (suc at) es) (e ∷ without m (drop (suc at) es)) (ne_eqb _ _ ne))
      ∙ sym (append_assoc (take at es) (e ∷ []) (without m (drop (suc at) es)))
      ∙ ap (λ v. v ++ without m (drop (suc at) es)) (sym (take_nth es at e is))
      ∙ ap (λ v. take v es ++ without m (drop v es)) (sym (add-one at))

  -- One of the mailbox is what was looked for.
  pub here_earliest : e.mailbox ≡ m → earliest m (drop at es) ≡ Some e
  here_earliest q = ap (earliest m) (drop_nth es at e is) ∙ cond-true (eqb e.mailbox m) _ _ (eq-eqb _ _ q)

  pub here_without : e.mailbox ≡ m → take at es ++ without m (drop at es) ≡ remove es at
  here_without q =
      ap (λ v. take at es ++ without m v) (drop_nth es at e is)
      ∙ ap (λ v. take at es ++ v) (cond-true (eqb e.mailbox m) (drop (suc at) es) (e ∷ without m (drop (suc at) es)) (eq-eqb _ _ q))
