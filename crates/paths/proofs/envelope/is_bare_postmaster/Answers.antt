use Rattle.std.proofs.Common.{◌≡◌, ℕ, List, [], ◌∷◌, ◌++◌, take, drop, sym, refl, ap, ◌∙◌, subst}
use Rattle.std.proofs.lemmas.List.{take-append-drop, drop-drop}
use Rattle.std.proofs.lemmas.Bool.{true≢false}
use Rattle.std.proofs.lemmas.Bool.Decides.{Decides-eqb}
use Rattle.std.proofs.lemmas.Option.{MatchOption-at_some}
use Rattle.std.proofs.lemmas.Slice.Eq.{strip_prefix_is, starts_is}
use Rattle.address.specs.Comparison.{IsPostmaster}
use Rattle.paths.specs.Envelopes.{PostmasterAt}
use Rattle.paths.proofs.Bare.{postmaster-name, postmaster_closed}
use Rattle.paths.proofs.envelope.is_bare_postmaster.Goals as goal

-- The ten octets behind "<" are the name.
name_is : (s rest name : List ℕ) → s ≡ 60 ∷ rest → name ≡ take 10 rest → (h : PostmasterAt s) → name ≡ h.name
name_is s rest name o n h = n ∙ ap (λ v. take 10 (drop 1 v)) (sym o) ∙ postmaster-name s h

pub returns-then-is_postmaster : goal.returns-then-is_postmaster
returns-then-is_postmaster c =
    let s = c.args.s.now in
    let rest = c.in-Some.rest in
    let behind = c.in-Some-split_at_checked.behind.now in
    let k = c.in-Some-split_at_checked.ensures.cases in
    let o : s ≡ 60 ∷ rest.now = MatchOption-at_some _ _ rest c.in-Some.is (strip_prefix_is Decides-eqb s (60 ∷ []) c.strip_prefix.result c.strip_prefix.ensures.cases) in
    let t = starts_is Decides-eqb behind (62 ∷ []) c.starts_with.result c.starts_with.ensures.value in (
      λ e. record {
        name = take 10 rest.now;
        rest = drop 1 behind;
        spelt = o ∙ ap (λ v. 60 ∷ v) (sym (take-append-drop 10 rest.now) ∙ ap (λ v. take 10 rest.now ++ v) (sym k.2 ∙ t.0 e));
        is_postmaster = subst IsPostmaster k.1 (c.if-is_postmaster.ensures.0 refl);
      },
      λ h. t.1 h.rest (k.2 ∙ ap (λ v. drop 10 (drop 1 v)) (sym o) ∙ drop-drop 10 1 s ∙ postmaster_closed s h),
    )

pub returns-else-is_postmaster : goal.returns-else-is_postmaster
returns-else-is_postmaster c =
    let s = c.args.s.now in
    let rest = c.in-Some.rest in
    let k = c.in-Some-split_at_checked.ensures.cases in
    let o : s ≡ 60 ∷ rest.now = MatchOption-at_some _ _ rest c.in-Some.is (strip_prefix_is Decides-eqb s (60 ∷ []) c.strip_prefix.result c.strip_prefix.ensures.cases) in (
      λ e. absurd (true≢false (sym e ∙ c.if-is_postmaster.false)),
      λ h. c.is_postmaster.ensures.1 (subst IsPostmaster (sym (name_is s rest.now c.in-Some-split_at_checked.name.now o k.1 h)) h.is_postmaster),
    )
