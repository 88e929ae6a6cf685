-- What octets do to a data part and its area.
use Rattle.std.proofs.Common.{◌≡◌, ℕ, ◌-◌, ◌≤◌, Bool, true, false, List, [], ◌∷◌, ◌++◌, length, get_or, take, drop, sym, refl, ap, ◌∙◌, subst, append_assoc, arith}
use Rattle.std.specs.List.{flat_map, AllByRecursion}
use Rattle.std.proofs.lemmas.List.{append-nil, length-append, take_all, take_at}
use Rattle.protocol.specs.declared.part.DataPart.{DataPart}
use Rattle.protocol.specs.declared.part.LinePlace.{LinePlace}
use Rattle.protocol.specs.declared.part.LinePlace.TheVariants.{Inside, DotCr}
use Rattle.protocol.specs.Lines.{Lines}
use Rattle.protocol.specs.Messages.{Message, Body, dot, carried}
use Rattle.protocol.specs.DataParts.{At, known, Laid, DataStands, DataEnds, DataAfter, DataTook, Adds}
use Rattle.protocol.proofs.Cuts.{lines_none, lines_end}
use Rattle.protocol.proofs.Laying.{laid_none, laid_is}
use Rattle.protocol.proofs.Moves.{Moves, run_on}

pub stands_none : (d : DataPart) (was : List ℕ) → At d.place [] → known d.place [] [] ≡ [] → d.kept ≡ 0 → d.over ≡ false → DataStands [] d was was
stands_none d was at none k o =
    let P : List ℕ → Type 0 = λ t. Laid t was was d.kept d.over in
    record {
      texts = [];
      rest = [];
      cut = lines_none;
      body = tt;
      place = at;
      laid = subst P (sym none) (laid_is [] was was was d.kept 0 d.over false refl k o (laid_none was));
    }

-- Octets that move the line, where what they bring is added.
pub took_on : (p p' : LinePlace) (octets xs : List ℕ) (d d' : DataPart) (area area' : List ℕ) → Moves p octets p' xs → d.place ≡ p → d'.place ≡ p' → Adds xs d d' area area' → DataTook d d' area area' octets false
took_on p p' octets xs d d' area area' moves is is' adds = record { after = go }
  where
    go : (heard was : List ℕ) → DataStands heard d was area → DataStands (heard ++ octets) d' was area'
    go heard was s =
        let P : LinePlace → Type 0 = λ q. At q s.rest in
        let m = moves.from heard s.texts s.rest s.cut s.body (subst P is s.place) in
        let Q : LinePlace → Type 0 = λ q. At q m.rest' in
        let L : List ℕ → Type 0 = λ t. Laid t was area' d'.kept d'.over in
        let grown : known d.place s.texts s.rest ++ xs ≡ known d'.place m.texts' m.rest' =
        ap (λ q. known q s.texts s.rest ++ xs) is ∙ m.grows ∙ ap (λ q. known q m.texts' m.rest') (sym is')
        in
        record {
          texts = m.texts';
          rest = m.rest';
          cut = m.cut;
          body = m.body;
          place = subst Q (sym is') m.place;
          laid = subst L grown (adds.lays (known d.place s.texts s.rest) was s.laid);
        }

-- The end line is whole.
pub closes : (heard : List ℕ) (texts : List (List ℕ)) (rest : List ℕ) → Lines heard texts rest → AllByRecursion Body texts → rest ≡ 46 ∷ 13 ∷ [] → Message (heard ++ (10 ∷ [])) (flat_map carried texts)
closes heard texts rest c b is = record { texts = texts; cut = lines_end heard texts rest dot c is; body = b; carries = refl }

pub took_end : (b : ℕ) (d : DataPart) (area : List ℕ) → b ≡ 10 → d.place ≡ DotCr → DataTook d d area area (b ∷ []) true
took_end b d area ten is = let P : ℕ → Type 0 = λ x. DataTook d d area area (x ∷ []) true in subst P (sym ten) (record { after = go })
  where
    go : (heard was : List ℕ) → DataStands heard d was area → DataEnds (heard ++ (10 ∷ [])) d was area
    go heard was s =
        let P : LinePlace → Type 0 = λ q. At q s.rest in
        let L : List ℕ → Type 0 = λ t. Laid t was area d.kept d.over in
        record {
          payload = flat_map carried s.texts;
          message = closes heard s.texts s.rest s.cut s.body (subst P is s.place);
          laid = subst L (ap (λ q. known q s.texts s.rest) is ∙ append-nil (flat_map carried s.texts)) s.laid;
        }

pub took_none : (d : DataPart) (area : List ℕ) → DataTook d d area area [] false
took_none d area = record { after = λ heard was s. let P : List ℕ → Type 0 = λ t. DataStands t d was area in subst P (sym (append-nil heard)) s }

-- Octets in two pieces.
pub took_both : (xs ys : List ℕ) (d e f : DataPart) (a b c : List ℕ) (w : Bool) → DataTook d e a b xs false → DataTook e f b c ys w → DataTook d f a c (xs ++ ys) w
took_both xs ys d e f a b c w g h = record {
  after = λ heard was s.
      let P : List ℕ → Type 0 = λ t. DataAfter w t f was c in
      subst P (append_assoc heard xs ys) (h.after (heard ++ xs) was (g.after heard was s));
}

-- What is left of an input after some of it was taken.
pub record Rests (d d' : DataPart) (area area' input rest : List ℕ) : Type 0 where
  pub taken : List ℕ
  pub whole : input ≡ taken ++ rest
  pub took : DataTook d d' area area' taken false

pub rests_all : (d : DataPart) (area input : List ℕ) → Rests d d area area input input
rests_all d area input = record { taken = []; whole = refl; took = took_none d area }

pub rests_less : (xs rest rest' : List ℕ) (d e f : DataPart) (a b c input : List ℕ) (w : Bool) → w ≡ false → rest ≡ xs ++ rest' → Rests d e a b input rest → DataTook e f b c xs w → Rests d f a c input rest'
rests_less xs rest rest' d e f a b c input w is cut r t =
    let P : Bool → Type 0 = λ v. DataTook e f b c xs v in
    record {
      taken = r.taken ++ xs;
      whole = r.whole ∙ ap (λ y. r.taken ++ y) cut ∙ sym (append_assoc r.taken xs rest');
      took = took_both r.taken xs d e f a b c false r.took (subst P is t);
    }

-- What was taken of an input is all of it but what is left.
pub rests_took : (xs rest rest' : List ℕ) (d e f : DataPart) (a b c input : List ℕ) (n : ℕ) (w v : Bool) → n ≡ length input - length rest' → w ≡ v → rest ≡ xs ++ rest' → Rests d e a b input rest → DataTook e f b c xs w → DataTook d f a c (take n input) v
rests_took xs rest rest' d e f a b c input n w v count is cut r t =
    let whole : input ≡ (r.taken ++ xs) ++ rest' = r.whole ∙ ap (λ y. r.taken ++ y) cut ∙ sym (append_assoc r.taken xs rest') in
    let long = ap length whole ∙ length-append (r.taken ++ xs) rest' in
    let P : List ℕ → Type 0 = λ y. DataTook d f a c y v in
    let Q : Bool → Type 0 = λ u. DataTook e f b c xs u in
    subst P (sym (ap (take n) whole ∙ take_at (r.taken ++ xs) rest' n (omega arith))) (took_both r.taken xs d e f a b c v r.took (subst Q is t))

-- A run without a CR.
pub took_run : (run : List ℕ) (d d' : DataPart) (area area' : List ℕ) → AllByRecursion (λ x. x ≡ 13 → ⊥) run → d.place ≡ Inside → d'.place ≡ d.place → Adds run d d' area area' → DataTook d d' area area' run false
took_run run d d' area area' clear is same adds = took_on Inside Inside run run d d' area area' (run_on run clear) is (same ∙ is) adds

-- The first octet, and those after it.
pub first_then : (xs : List ℕ) → 1 ≤ length xs → xs ≡ (get_or xs 0 0 ∷ []) ++ take (length xs - 1) (drop 1 xs)
first_then [] h = absurd (omega arith)
first_then (x ∷ xs) h = ap (λ t. x ∷ t) (sym (take_all (length (x ∷ xs) - 1) xs (omega arith)))
