-- What was heard settles the state.
use Rattle.std.proofs.Common.{◌≡◌, ℕ, ◌≤◌, Bool, true, false, cond, List, [], ◌∷◌, ◌++◌, length, take, drop, Some, None, Option, sym, refl, ap, ◌∙◌, subst, inl, inr, append_assoc, arith}
use Rattle.std.specs.List.{flat_map, AllByRecursion}
use Rattle.std.proofs.lemmas.List.{append-nil, same_from_push}
use Rattle.protocol.specs.declared.part.DataPart.{DataPart}
use Rattle.protocol.specs.declared.part.LinePlace.{LinePlace}
use Rattle.protocol.specs.declared.part.LinePlace.TheVariants.{Start, Inside, Cr, Dot, DotCr}
use Rattle.protocol.specs.Lines.{Lines}
use Rattle.protocol.specs.Messages.{Message, Body, carried}
use Rattle.protocol.specs.DataParts.{At, known, Laid, filled, payload_of, DataStands, DataEnds, DataLaws}
use Rattle.protocol.proofs.Breaks.{pushed_some}
use Rattle.protocol.proofs.Cuts.{one-cut}
use Rattle.protocol.proofs.Laying.{laid_front, laid-whole, filled_is, one-laid}
use Rattle.protocol.proofs.MessageCuts.{one, apart}
use Rattle.protocol.proofs.Moves.{step}
use Rattle.protocol.proofs.Takes.{closes}

other : (is was rest : List ℕ) → (length is ≡ length was → ⊥) → rest ≡ is → rest ≡ was → ⊥
other is was rest n a b = n (ap length (sym a ∙ b))

start_cr : (r : List ℕ) → At Start r → At Cr r → ⊥
start_cr r a b = pushed_some b.0.0 13 (sym b.0.1 ∙ a)

dot-cr : (r : List ℕ) → At Dot r → At Cr r → ⊥
dot-cr r a b = let z : ◌≡◌ {A = ℕ} 13 46 = (same_from_push b.0.0 [] 13 46 (sym b.0.1 ∙ a)).1 in omega arith

start_dot : (r : List ℕ) → At Start r → At Dot r → ⊥
start_dot r a b = other [] (46 ∷ []) r (λ e. omega arith) a b

start_dotcr : (r : List ℕ) → At Start r → At DotCr r → ⊥
start_dotcr r a b = other [] (46 ∷ 13 ∷ []) r (λ e. omega arith) a b

dot_dotcr : (r : List ℕ) → At Dot r → At DotCr r → ⊥
dot_dotcr r a b = other (46 ∷ []) (46 ∷ 13 ∷ []) r (λ e. omega arith) a b

one_place : (p q : LinePlace) (r : List ℕ) → At p r → At q r → p ≡ q
one_place Start Start r a b = refl
one_place Start Inside r a b = absurd (b.0 a)
one_place Start Cr r a b = absurd (start_cr r a b)
one_place Start Dot r a b = absurd (start_dot r a b)
one_place Start DotCr r a b = absurd (start_dotcr r a b)
one_place Inside Start r a b = absurd (a.0 b)
one_place Inside Inside r a b = refl
one_place Inside Cr r a b = absurd (a.2 b.0.0 b.0.1)
one_place Inside Dot r a b = absurd (a.1 b)
one_place Inside DotCr r a b = absurd (a.2 (46 ∷ []) b)
one_place Cr Start r a b = absurd (start_cr r b a)
one_place Cr Inside r a b = absurd (b.2 a.0.0 a.0.1)
one_place Cr Cr r a b = refl
one_place Cr Dot r a b = absurd (dot-cr r b a)
one_place Cr DotCr r a b = absurd (a.1 b)
one_place Dot Start r a b = absurd (start_dot r b a)
one_place Dot Inside r a b = absurd (b.1 a)
one_place Dot Cr r a b = absurd (dot-cr r a b)
one_place Dot Dot r a b = refl
one_place Dot DotCr r a b = absurd (dot_dotcr r a b)
one_place DotCr Start r a b = absurd (start_dotcr r b a)
one_place DotCr Inside r a b = absurd (b.2 (46 ∷ []) a)
one_place DotCr Cr r a b = absurd (b.1 a)
one_place DotCr Dot r a b = absurd (dot_dotcr r b a)
one_place DotCr DotCr r a b = refl

same_part : (d e : DataPart) → d.place ≡ e.place → d.kept ≡ e.kept → d.over ≡ e.over → d ≡ e
same_part d e a b c =
    ap (λ (x : LinePlace). record { place = x; kept = d.kept; over = d.over }) a
    ∙ ap (λ (x : ℕ). record { place = e.place; kept = x; over = d.over }) b
    ∙ ap (λ (x : Bool). record { place = e.place; kept = e.kept; over = x }) c

stands : (heard : List ℕ) (d e : DataPart) (was a b : List ℕ) → DataStands heard d was a → DataStands heard e was b → (d ≡ e) × (a ≡ b)
stands heard d e was a b s t =
    let r = one-cut heard s.texts t.texts s.rest t.rest s.cut t.cut in
    let ls : s.texts ≡ t.texts = r.0 in
    let rs : s.rest ≡ t.rest = r.1 in
    let P : List ℕ → Type 0 = λ x. At d.place x in
    let p : d.place ≡ e.place = one_place d.place e.place t.rest (subst P rs s.place) t.place in
    let same : known d.place s.texts s.rest ≡ known e.place t.texts t.rest = cc in
    let L : List ℕ → Type 0 = λ x. Laid x was a d.kept d.over in
    let l = one-laid (known e.place t.texts t.rest) was a b d.kept e.kept d.over e.over (subst L same s.laid) t.laid in
    (same_part d e p l.0 l.1, l.2)

ends : (heard more : List ℕ) (d e : DataPart) (was a b : List ℕ) → DataEnds heard d was a → DataEnds (heard ++ more) e was b → (more ≡ []) × (d.kept ≡ e.kept) × (d.over ≡ e.over) × (a ≡ b)
ends heard more d e was a b s t =
    let r = one heard more s.payload t.payload s.message t.message in
    let L : List ℕ → Type 0 = λ x. Laid x was a d.kept d.over in
    let l = one-laid t.payload was a b d.kept e.kept d.over e.over (subst L r.1 s.laid) t.laid in
    (r.0, l.0, l.1, l.2)

-- What is known to be payload is payload of every message that may come.
stays : (more heard : List ℕ) (p : LinePlace) (texts : List (List ℕ)) (rest q : List ℕ) → Lines heard texts rest → AllByRecursion Body texts → At p rest → Message (heard ++ more) q → (tail : List ℕ) × (q ≡ known p texts rest ++ tail)
stays [] heard p texts rest q c b at m =
    let same : heard ++ [] ≡ heard = append-nil heard in
    let P : List ℕ → Type 0 = λ t. Message t q in
    let R : List ℕ → Type 0 = λ t. Lines t texts rest in
    absurd (apart heard [] q (subst P same m) (record { texts = texts; rest = rest; cut = subst R (sym same) c; body = b }))
stays (x ∷ more) heard p texts rest q c b at m =
    let P : List ℕ → Type 0 = λ t. Message t q in
    let M : Message ((heard ++ (x ∷ [])) ++ more) q = subst P (sym (append_assoc heard (x ∷ []) more)) m in
    elim (step p x) [
      | inl g ↦
          let n = g.1.1.from heard texts rest c b at in
          let r = stays more (heard ++ (x ∷ [])) g.0 n.texts' n.rest' q n.cut n.body n.place M in
          (g.1.0 ++ r.0, r.1 ∙ ap (λ t. t ++ r.0) (sym n.grows) ∙ append_assoc (known p texts rest) g.1.0 r.0)
      | inr g ↦
          let Q : LinePlace → Type 0 = λ y. At y rest in
          let E : ℕ → Type 0 = λ y. Message (heard ++ (y ∷ [])) (flat_map carried texts) in
          let N = subst E (sym g.1) (closes heard texts rest c b (subst Q g.0 at)) in
          ([], sym (one (heard ++ (x ∷ [])) more (flat_map carried texts) q N M).1 ∙ sym (append-nil (flat_map carried texts)) ∙ ap (λ y. known y texts rest) (sym g.0) ∙ sym (append-nil (known p texts rest)))
    ]

sure : (heard more : List ℕ) (d : DataPart) (was area p : List ℕ) → DataStands heard d was area → Message (heard ++ more) p → (d.kept ≤ length p) × (take d.kept area ≡ take d.kept p) × (drop d.kept area ≡ drop d.kept was)
sure heard more d was area p s m =
    let r = stays more heard d.place s.texts s.rest p s.cut s.body s.place m in
    let P : List ℕ → Type 0 = λ t. (d.kept ≤ length t) × (take d.kept area ≡ take d.kept t) × (drop d.kept area ≡ drop d.kept was) in
    subst P (sym r.1) (laid_front (known d.place s.texts s.rest) r.0 was area d.kept d.over s.laid)

whole_told : (heard : List ℕ) (d : DataPart) (was area : List ℕ) (e : DataEnds heard d was area) (n : ℕ) → payload_of d ≡ Some n → (n ≡ length e.payload) × (take n area ≡ e.payload)
whole_told heard d was area e n is = either d.over refl
  where
    either : (w : Bool) → d.over ≡ w → (n ≡ length e.payload) × (take n area ≡ e.payload)
    either false o =
        let P : ℕ → Type 0 = λ k. (k ≡ length e.payload) × (take k area ≡ e.payload) in
        let k : d.kept ≡ n = let q : Some d.kept ≡ Some n = sym (ap (λ w. cond w None (Some d.kept)) o) ∙ is in cc in
        subst P k (laid-whole e.payload was area d.kept d.over e.laid o)
    either true o = let q : ◌≡◌ {A = Option ℕ} None (Some n) = sym (ap (λ w. cond w None (Some d.kept)) o) ∙ is in absurd (cc)

sure_told : (heard more : List ℕ) (d : DataPart) (was area p : List ℕ) → DataStands heard d was area → Message (heard ++ more) p → (filled (payload_of d) area ≤ length p) × (take (filled (payload_of d) area) area ≡ take (filled (payload_of d) area) p) × (drop (filled (payload_of d) area) area ≡ drop (filled (payload_of d) area) was)
sure_told heard more d was area p s m =
    let P : ℕ → Type 0 = λ k. (k ≤ length p) × (take k area ≡ take k p) × (drop k area ≡ drop k was) in
    subst P (sym (filled_is (known d.place s.texts s.rest) was area d.kept d.over s.laid)) (sure heard more d was area p s m)

ends_told : (heard more : List ℕ) (d e : DataPart) (was a b : List ℕ) → DataEnds heard d was a → DataEnds (heard ++ more) e was b → (more ≡ []) × (payload_of d ≡ payload_of e) × (a ≡ b)
ends_told heard more d e was a b s t =
    let r = ends heard more d e was a b s t in
    (r.0, ap (λ w. cond w None (Some d.kept)) r.2 ∙ ap (λ k. cond e.over None (Some k)) r.1, r.3)

pub laws : DataLaws
laws = record {
  whole = λ heard d was area e n. laid-whole e.payload was area d.kept d.over e.laid n;
  sure = sure;
  stands = stands;
  ends = ends;
  whole_told = whole_told;
  sure_told = sure_told;
  ends_told = ends_told;
  apart = λ heard more d e was a b s t. apart heard more s.payload s.message (record { texts = t.texts; rest = t.rest; cut = t.cut; body = t.body });
}
