-- Octets are cut into lines in one way.
use Rattle.std.proofs.Common.{◌≡◌, ℕ, Bool, true, false, eqb, List, [], ◌∷◌, ◌++◌, sym, refl, ap, ◌∙◌, subst, append_assoc}
use Rattle.std.specs.List.{flat_map, AllByRecursion}
use Rattle.std.proofs.ByRecursion.{All-push}
use Rattle.std.proofs.lemmas.List.{append-nil, flat_map_more}
use Rattle.std.proofs.lemmas.Bool.{eqb-true, eqb-false}
use Rattle.protocol.specs.Buffers.{CrLast}
use Rattle.protocol.specs.Lines.{Unbroken, ended, Lines}
use Rattle.protocol.proofs.Breaks.{cr_last, unbroken_nil, unbroken_front, unbroken_push, first_break, line_then}

-- Lines at the front of octets that are cut into lines are the first of these.
pub lines_front : (ls ms : List (List ℕ)) (more rest : List ℕ) → AllByRecursion Unbroken ls → AllByRecursion Unbroken ms → Unbroken rest → flat_map ended ls ++ more ≡ flat_map ended ms ++ rest → (cs : List (List ℕ)) × ((ms ≡ ls ++ cs) × (more ≡ flat_map ended cs ++ rest))
lines_front [] ms more rest a b u e = (ms, (refl, e))
lines_front (l ∷ ls) [] more rest a b u e = absurd (u l (flat_map ended ls ++ more) (sym e ∙ line_then l (flat_map ended ls) more))
lines_front (l ∷ ls) (m ∷ ms) more rest a b u e =
    let f = first_break l m (flat_map ended ls ++ more) (flat_map ended ms ++ rest) a.0 b.0 (sym (line_then l (flat_map ended ls) more) ∙ e ∙ line_then m (flat_map ended ms) rest) in
    let r = lines_front ls ms more rest a.1 b.1 u f.1 in
    let p : l ≡ m = f.0 in
    let q : ms ≡ ls ++ r.0 = r.1.0 in
    (r.0, (cc, r.1.1))

unbroken_none : (cs : List (List ℕ)) (more rest : List ℕ) → Unbroken more → more ≡ flat_map ended cs ++ rest → cs ≡ []
unbroken_none [] more rest u e = refl
unbroken_none (c ∷ cs) more rest u e = absurd (u c (flat_map ended cs ++ rest) (e ∙ line_then c (flat_map ended cs) rest))

pub one-cut : (octets : List ℕ) (ls ms : List (List ℕ)) (rest tail : List ℕ) → Lines octets ls rest → Lines octets ms tail → (ls ≡ ms) × (rest ≡ tail)
one-cut octets ls ms rest tail c d =
    let f = lines_front ls ms rest tail c.each d.each d.unended (sym c.whole ∙ d.whole) in
    let n = unbroken_none f.0 rest tail c.unended f.1.1 in
    (sym (f.1.0 ∙ ap (λ t. ls ++ t) n ∙ append-nil ls), f.1.1 ∙ ap (λ t. flat_map ended t ++ tail) n)

pub lines_none : Lines [] [] []
lines_none = record { whole = refl; each = tt; unended = unbroken_nil }

-- The line goes on.
pub lines_on : (octets : List ℕ) (ls : List (List ℕ)) (rest : List ℕ) (x : ℕ) → Lines octets ls rest → ((t : List ℕ) → rest ≡ t ++ (13 ∷ []) → x ≡ 10 → ⊥) → Lines (octets ++ (x ∷ [])) ls (rest ++ (x ∷ []))
lines_on octets ls rest x c n = record {
  whole = ap (λ t. t ++ (x ∷ [])) c.whole ∙ append_assoc (flat_map ended ls) rest (x ∷ []);
  each = c.each;
  unended = unbroken_push rest x c.unended n;
}

-- The line ends.
pub lines_end : (octets : List ℕ) (ls : List (List ℕ)) (rest text : List ℕ) → Lines octets ls rest → rest ≡ text ++ (13 ∷ []) → Lines (octets ++ (10 ∷ [])) (ls ++ (text ∷ [])) []
lines_end octets ls rest text c is =
    let P : List ℕ → Type 0 = λ t. Unbroken t in
    record {
      whole =
          ap (λ t. t ++ (10 ∷ [])) c.whole ∙ append_assoc (flat_map ended ls) rest (10 ∷ [])
          ∙ ap (λ t. flat_map ended ls ++ t) (ap (λ t. t ++ (10 ∷ [])) is ∙ append_assoc text (13 ∷ []) (10 ∷ []))
          ∙ flat_map_more ended [] ls text ∙ sym (append-nil (flat_map ended (ls ++ (text ∷ []))));
      each = All-push Unbroken ls text c.each (unbroken_front text (13 ∷ []) (subst P is c.unended));
      unended = unbroken_nil;
    }

abbrev Cut : List ℕ → Type 0
Cut octets = (texts : List (List ℕ)) × ((rest : List ℕ) × Lines octets texts rest)

next : (octets : List ℕ) (ls : List (List ℕ)) (rest : List ℕ) (x : ℕ) → Lines octets ls rest → Cut (octets ++ (x ∷ []))
next octets ls rest x c = go (cr_last rest).0 (eqb x 10) (cr_last rest).1 refl
  where
    go : (w v : Bool) → CrLast w rest → eqb x 10 ≡ v → Cut (octets ++ (x ∷ []))
    go false v k e = (ls, (rest ++ (x ∷ []), lines_on octets ls rest x c (λ t q _. k t q)))
    go true false k e = (ls, (rest ++ (x ∷ []), lines_on octets ls rest x c (λ _ _ q. eqb-false x 10 e q)))
    go true true k e =
        let P : ℕ → Type 0 = λ y. Cut (octets ++ (y ∷ [])) in
        subst P (sym (eqb-true x 10 e)) (ls ++ (k.0 ∷ []), ([], lines_end octets ls rest k.0 c k.1))

cuts_on : (xs octets : List ℕ) (ls : List (List ℕ)) (rest : List ℕ) → Lines octets ls rest → Cut (octets ++ xs)
cuts_on [] octets ls rest c = let P : List ℕ → Type 0 = λ t. Lines t ls rest in (ls, (rest, subst P (sym (append-nil octets)) c))
cuts_on (x ∷ xs) octets ls rest c =
    let n = next octets ls rest x c in
    let P : List ℕ → Type 0 = λ t. Cut t in
    subst P (append_assoc octets (x ∷ []) xs) (cuts_on xs (octets ++ (x ∷ [])) n.0 n.1.0 n.1.1)

pub cuts : (octets : List ℕ) → (texts : List (List ℕ)) × ((rest : List ℕ) × Lines octets texts rest)
cuts octets = cuts_on octets [] [] [] lines_none
