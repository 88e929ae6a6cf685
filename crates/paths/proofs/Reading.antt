-- A path is read part by part.
use Rattle.std.proofs.Common.{◌≡◌, ℕ, ◌+◌, false, List, ◌∷◌, ◌++◌, length, take, drop, sym, refl, ap, ◌∙◌, subst, inl, inr, arith}
use Rattle.std.specs.List.{prefix_len}
use Rattle.std.proofs.lemmas.List.{take-append-drop, drop_at, length-take-le}
use Rattle.address.specs.Classes.{atext, let_dig}
use Rattle.address.specs.Words.{or_dot, label_octet}
use Rattle.address.specs.Parts.{LocalAt, DomainAt, Only}
use Rattle.paths.specs.Paths.{PathAt, Fault}
use Rattle.paths.specs.declared.path.Path.{Path}
use Rattle.address.proofs.Runs.{stops_at}
use Rattle.address.proofs.Fronts.{local_front, domain_front, local-within, domain-within, local_is, domain_is}

atom_64 : or_dot atext 64 ≡ false
unfolding atext let_dig
atom_64 = refl

label_62 : or_dot label_octet 62 ≡ false
unfolding let_dig
label_62 = refl

abbrev path : ℕ → ℕ → Path
path at end = record { at = at; end = end }

-- The parts of a path, as they are read.
pub record Parts (xs : List ℕ) (p : Path) : Type 0 where
  pub rest : List ℕ
  pub opened : xs ≡ 60 ∷ rest
  pub n : ℕ
  pub local : LocalAt rest n
  pub after : List ℕ
  pub at_sign : drop n rest ≡ 64 ∷ after
  pub m : ℕ
  pub domain : DomainAt after m
  pub behind : List ℕ
  pub closed : drop m after ≡ 62 ∷ behind
  pub at_is : p.at ≡ 1 + n
  pub end_is : p.end ≡ n + m + 3

pub parts_of : (xs : List ℕ) (p : Path) → PathAt xs p → Parts xs p
parts_of xs p h =
    let after = h.domain ++ 62 ∷ h.rest in
    record {
      rest = h.local ++ 64 ∷ after;
      opened = h.spelt;
      n = length h.local;
      local = local_front h.local (64 ∷ after) h.is_local (stops_at (or_dot atext) 64 after atom_64);
      after = after;
      at_sign = drop_at h.local (64 ∷ after) (length h.local) refl;
      m = length h.domain;
      domain = domain_front h.domain (62 ∷ h.rest) h.is_domain (stops_at (or_dot label_octet) 62 h.rest label_62);
      behind = h.rest;
      closed = drop_at h.domain (62 ∷ h.rest) (length h.domain) refl;
      at_is = h.at_sign;
      end_is = omega (arith, h.ends, h.at_sign);
    }

path_from : (xs : List ℕ) (p : Path) → Parts xs p → PathAt xs p
path_from xs p h =
    let l : length (take h.n h.rest) ≡ h.n = length-take-le h.n h.rest (local-within h.rest h.n h.local) in
    let d : length (take h.m h.after) ≡ h.m = length-take-le h.m h.after (domain-within h.after h.m h.domain) in
    record {
      local = take h.n h.rest;
      domain = take h.m h.after;
      rest = h.behind;
      spelt = h.opened ∙ ap (λ v. 60 ∷ v)
          (sym (take-append-drop h.n h.rest)
          ∙ ap (λ v. take h.n h.rest ++ v) (h.at_sign ∙ ap (λ v. 64 ∷ v)
          (sym (take-append-drop h.m h.after) ∙ ap (λ v. take h.m h.after ++ v) h.closed)));
      is_local = local_is h.rest h.n h.local;
      is_domain = domain_is h.after h.m h.domain;
      at_sign = omega (arith, h.at_is, l);
      ends = omega (arith, h.at_is, h.end_is, d);
    }

-- Behind "<".
module _ (xs rest : List ℕ) (opened : xs ≡ 60 ∷ rest) where
  same_rest : (p : Path) (h : Parts xs p) → h.rest ≡ rest
  same_rest p h = ap (drop 1) (sym h.opened ∙ opened)

  local_of : (p : Path) (h : Parts xs p) → LocalAt rest h.n
  local_of p h = subst (λ (v : List ℕ). LocalAt v h.n) (same_rest p h) h.local

  pub no_local : ((n : ℕ) → LocalAt rest n → ⊥) → Fault PathAt xs 2
  no_local none = record {
    why = inr (inl (refl, record { rest = rest; opened = opened; none = none }));
    none = λ p q. let h = parts_of xs p q in none h.n (local_of p h);
  }

  -- Behind the local part.
  module _ (n : ℕ) (local : Only (LocalAt rest) n) where
    at_of : (p : Path) (h : Parts xs p) → drop n rest ≡ 64 ∷ h.after
    at_of p h =
        ap (λ v. drop n v) (sym (same_rest p h)) ∙ ap (λ k. drop k h.rest) (sym (local.alone h.n (local_of p h))) ∙ h.at_sign

    pub no_domain : ((ys : List ℕ) (m : ℕ) → drop n rest ≡ 64 ∷ ys → DomainAt ys m → ⊥) → Fault PathAt xs 3
    no_domain none = record {
      why = inr (inr (inl (refl, record { rest = rest; opened = opened; n = n; local = local.holds; none = none })));
      none = λ p q. let h = parts_of xs p q in none h.after h.m (at_of p h) h.domain;
    }

    -- Behind the domain.
    module _ (after : List ℕ) (at_sign : drop n rest ≡ 64 ∷ after) where
      same_after : (ys : List ℕ) → drop n rest ≡ 64 ∷ ys → ys ≡ after
      same_after ys e = ap (drop 1) (sym e ∙ at_sign)

      pub no_label : ((m : ℕ) → DomainAt after m → ⊥) → Fault PathAt xs 3
      no_label none = no_domain (λ ys m e d. none m (subst (λ (v : List ℕ). DomainAt v m) (same_after ys e) d))

      module _ (m : ℕ) (domain : DomainAt after m) where
        domain-size : (p : Path) (h : Parts xs p) → h.m ≡ m
        domain-size p h =
            h.domain.longest ∙ ap (prefix_len (or_dot label_octet)) (same_after h.after (at_of p h)) ∙ sym domain.longest

        pub no_closing : ((ys : List ℕ) → drop m after ≡ 62 ∷ ys → ⊥) → Fault PathAt xs 4
        no_closing none = record {
          why = inr (inr (inr (refl, record { rest = rest; opened = opened; n = n; local = local.holds; after = after; at_sign = at_sign; m = m; domain = domain; none = none })));
          none = λ p q.
              let h = parts_of xs p q in
              none h.behind
              (ap (drop m) (sym (same_after h.after (at_of p h))) ∙ ap (λ k. drop k h.after) (sym (domain-size p h)) ∙ h.closed);
        }

        pub the_path : (ys : List ℕ) → drop m after ≡ 62 ∷ ys → (p : Path) → p.at ≡ 1 + n → p.end ≡ n + m + 3 → Only (PathAt xs) p
        the_path ys closed p a e = record {
          holds = path_from xs p (record {
            rest = rest;
            opened = opened;
            n = n;
            local = local.holds;
            after = after;
            at_sign = at_sign;
            m = m;
            domain = domain;
            behind = ys;
            closed = closed;
            at_is = a;
            end_is = e;
          });
          alone = λ q r.
              let h = parts_of xs q r in
              let i : q.at ≡ p.at = omega (arith, h.at_is, local.alone h.n (local_of q h), a) in
              let j : q.end ≡ p.end = omega (arith, h.end_is, local.alone h.n (local_of q h), domain-size q h, e) in
              ap (λ (v : ℕ). path v q.end) i ∙ ap (path p.at) j;
        }
