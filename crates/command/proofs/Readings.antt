-- The arguments of MAIL and RCPT, once their path is read.
use Rattle.std.proofs.Common.{◌≡◌, ℕ, List, [], ◌∷◌, ◌++◌, length, get_or, drop, Some, None, Option, sym, refl, ap, ◌∙◌, subst, inr, arith}
use Rattle.std.proofs.lemmas.List.{length-append, nil_from_length}
use Rattle.paths.specs.Envelopes.{ForwardAt, ReverseAt}
use Rattle.address.specs.Parts.{Only}
use Rattle.paths.specs.declared.envelope.ForwardPath.{ForwardPath}
use Rattle.paths.specs.declared.envelope.ReversePath.{ReversePath}
use Rattle.command.specs.Arguments.{Accepted, IsMail, IsRcpt, Opens, Refused, Syntax, behind_keyword, behind_path, mail_syntax, rcpt_syntax}
use Rattle.command.specs.Faults.{Verdict}
use Rattle.command.specs.Lines.{Begins}
use Rattle.command.specs.Numerals.{decimal_value, kept}
use Rattle.command.specs.Parameters.{AllRight, Behind, Declares, Parameters, SizeIn, Sized, knows_none, size_only}
use Rattle.command.specs.declared.argument.MailLine.{MailLine}
use Rattle.command.specs.declared.argument.RcptLine.{RcptLine}
use Rattle.command.proofs.Judging.{Proper, no_fault, one_at_most, proper_size, right_none}
use Rattle.command.proofs.Spacing.{params_same}

-- The one parameter of MAIL is the one that declares the size.
alone_in : (ps : List (List ℕ)) (n : ℕ) → AllRight size_only ps → (z : SizeIn ps n) → ps ≡ z.param ∷ []
alone_in ps n h z =
    let l = one_at_most ps h in
    let e = ap length z.spelt in
    let m = length-append z.before (z.param ∷ z.after) in
    let b : z.before ≡ [] = nil_from_length z.before (omega (arith, l, e, m)) in
    let a : z.after ≡ [] = nil_from_length z.after (omega (arith, l, e, m)) in
    z.spelt ∙ ap (λ v. v ++ z.param ∷ z.after) b ∙ ap (λ v. z.param ∷ v) a

size_of : (ps : List (List ℕ)) (n : ℕ) (z : SizeIn ps n) → n ≡ kept (decimal_value (drop 5 z.param))
size_of ps n z = z.keeps ∙ ap kept z.is_size.1.writes

sized_not : (ps : List (List ℕ)) (n : ℕ) → AllRight size_only ps → Declares ps None → SizeIn ps n → ⊥
sized_not ps n h d z = (subst (λ (v : List (List ℕ)). Declares v None) (alone_in ps n h z) d).0 z.is_size.0

sizes_same : (ps : List (List ℕ)) (a b : Option ℕ) → AllRight size_only ps → Declares ps a → Declares ps b → a ≡ b
sizes_same ps None None h d e = refl
sizes_same ps None (Some n) h d e = absurd (sized_not ps n h d e)
sizes_same ps (Some m) None h d e = absurd (sized_not ps m h e d)
sizes_same ps (Some m) (Some n) h d e =
    let f : d.param ≡ e.param = ap (λ v. get_or v 0 []) (sym (alone_in ps m h d) ∙ alone_in ps n h e) in
    ap Some (size_of ps m d ∙ ap (λ p. kept (decimal_value (drop 5 p))) f ∙ sym (size_of ps n e))

module _ {A : Type 0} (s : Syntax A) (proper : Proper s.knows) (xs : List ℕ) (keyword : Begins s.keyword xs)
    (path : A) (only : Only (s.At (behind_keyword s xs)) path) where
  opens : Opens s xs path
  opens = record { keyword = keyword; route = only.holds }

  same-path : (q : A) (ps : List (List ℕ)) → Accepted s xs q ps → q ≡ path
  same-path q ps h = only.alone q h.opens.route

  spelt_here : (q : A) (ps : List (List ℕ)) → Accepted s xs q ps → Parameters (behind_path s xs path) ps
  spelt_here q ps h = subst (λ (a : A). Parameters (behind_path s xs a) ps) (same-path q ps h) h.spelt

  same_params : (q : A) (ps rs : List (List ℕ)) → Accepted s xs q ps → Parameters (behind_path s xs path) rs → ps ≡ rs
  same_params q ps rs h k =
      let g = spelt_here q ps h in
      params_same ps rs g.apart k.apart (sym g.spelt ∙ k.spelt)

  -- What stands behind the path is wrong.
  pub behind-refused : {B : Type 0} (Is : List ℕ → B → Type 0) (path-of : B → A) →
      ((line : B) → Is xs line → (ps : List (List ℕ)) × Accepted s xs (path-of line) ps) →
      (v : Verdict) → Behind s.knows (behind_path s xs path) v → Refused s Is xs v
  behind-refused Is path-of parts v b = record {
    why = inr (inr (record { path = path; opens = opens; behind = b }));
    none = λ line h.
        let p = parts line h in
        no_fault s.knows proper (behind_path s xs path) p.0 v (spelt_here (path-of line) p.0 p.1) p.1.right b;
  }

-- What stands behind the path, as the code takes it.
pub rest_is : {A : Type 0} (s : Syntax A) (xs route rest : List ℕ) (path : A) (n : ℕ) →
    route ≡ behind_keyword s xs → rest ≡ drop n route → n ≡ s.end path → rest ≡ behind_path s xs path
rest_is s xs route rest path n e f g = f ∙ ap (λ k. drop k route) g ∙ ap (drop (s.end path)) e

abbrev mail : ReversePath → Option ℕ → MailLine
mail path size = record { path = path; size = size }

abbrev rcpt : ForwardPath → RcptLine
rcpt path = record { path = path }

pub mail_only : (xs : List ℕ) → Begins mail_syntax.keyword xs → (path : ReversePath) → Only (ReverseAt (drop 5 xs)) path →
    (size : Option ℕ) → Sized (behind_path mail_syntax xs path) size → Only (IsMail xs) (mail path size)
mail_only xs keyword path only size z = record {
  holds = record {
    params = z.params;
    accepted = record { opens = opens mail_syntax proper_size xs keyword path only; spelt = z.spelt; right = z.right };
    size = z.size;
  };
  alone = λ line h.
      let e : line.path ≡ path = same-path mail_syntax proper_size xs keyword path only line.path h.params h.accepted in
      let f : h.params ≡ z.params = same_params mail_syntax proper_size xs keyword path only line.path h.params z.params h.accepted z.spelt in
      let g : line.size ≡ size =
      sizes_same z.params line.size size z.right (subst (λ (v : List (List ℕ)). Declares v line.size) f h.size) z.size in
      ap (λ (p : ReversePath). mail p line.size) e ∙ ap (mail path) g;
}

pub proper_none : Proper knows_none
proper_none = record { some = λ p h e. h }

pub rcpt_only : (xs : List ℕ) → Begins rcpt_syntax.keyword xs → (path : ForwardPath) → Only (ForwardAt (drop 3 xs)) path →
    behind_path rcpt_syntax xs path ≡ [] → Only (IsRcpt xs) (rcpt path)
rcpt_only xs keyword path only z = record {
  holds = record {
    params = [];
    accepted = record { opens = opens rcpt_syntax proper_none xs keyword path only; spelt = record { spelt = z; apart = tt }; right = right_none knows_none };
  };
  alone = λ line h. ap rcpt (same-path rcpt_syntax proper_none xs keyword path only line.path h.params h.accepted);
}

pub mail_refused : (xs : List ℕ) → Begins mail_syntax.keyword xs → (path : ReversePath) → Only (ReverseAt (drop 5 xs)) path →
    (v : Verdict) → Behind size_only (behind_path mail_syntax xs path) v → Refused mail_syntax IsMail xs v
mail_refused xs keyword path only v b =
    behind-refused mail_syntax proper_size xs keyword path only IsMail (λ line. line.path) (λ line h. (h.params, h.accepted)) v b

pub rcpt_refused : (xs : List ℕ) → Begins rcpt_syntax.keyword xs → (path : ForwardPath) → Only (ForwardAt (drop 3 xs)) path →
    (v : Verdict) → Behind knows_none (behind_path rcpt_syntax xs path) v → Refused rcpt_syntax IsRcpt xs v
rcpt_refused xs keyword path only v b =
    behind-refused rcpt_syntax proper_none xs keyword path only IsRcpt (λ line. line.path) (λ line h. (h.params, h.accepted)) v b
