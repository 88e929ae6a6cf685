-- What an octet does to a line buffer.
use Rattle.std.proofs.Common.{◌≡◌, ℕ, ◌+◌, ◌-◌, ◌<◌, ◌≤◌, min, Bool, true, false, eqb, ltb, leb, List, [], ◌∷◌, ◌++◌, length, take, set, sym, refl, ap, ◌∙◌, subst, inl, inr, append_assoc, arith}
use native.Mathlib.Nat.{min-eq_left, min-eq_right}
use Rattle.std.proofs.lemmas.List.{length_push, length-append, take_all, take_at, take-append-le, take_more_set, take-take}
use Rattle.std.proofs.lemmas.Bool.{cases_lt, le-leb, lt-leb, lt-ltb, le-ltb, ltb-true, ltb-false}
use Rattle.protocol.specs.declared.line.LineBuffer.{LineBuffer}
use Rattle.protocol.specs.Buffers.{longest, kept, CrLast, LineStands, LineEnds, LinePushed, BufferLaws}
use Rattle.protocol.specs.Lines.{Unbroken, ended}
use Rattle.protocol.proofs.Breaks.{cr_pushed, unbroken_nil, unbroken_front, unbroken_push, pushed_some, first_break}

pub stands_none : (octets : List ℕ) → LineStands [] (record { octets = octets; used = 0; long = false; cr = false })
stands_none octets = record { unended = unbroken_nil; count = refl; front = refl; long = refl; cr = λ t e. pushed_some t 13 (sym e) }

-- Fewer octets than a longest line has came.
under : (n used : ℕ) → used ≡ min longest n → n ≤ longest → used ≡ n
under n used e l = e ∙ min-eq_right l

ends-cr : (w : Bool) (xs t : List ℕ) → CrLast w xs → xs ≡ t ++ (13 ∷ []) → w ≡ true
ends-cr true xs t c e = refl
ends-cr false xs t c e = absurd (c t e)

-- The line goes on, and there is room for the octet.
pub pushed_kept : (b : LineBuffer) (x : ℕ) → length b.octets ≡ longest → (b.cr ≡ true → x ≡ 10 → ⊥) → b.used < longest → LinePushed b (record { octets = set b.octets b.used x; used = b.used + 1; long = b.long; cr = eqb x 13 }) x false
pushed_kept b x full on room = record { after = go }
  where
    go : (rest : List ℕ) → LineStands rest b → LineStands (rest ++ (x ∷ [])) (record { octets = set b.octets b.used x; used = b.used + 1; long = b.long; cr = eqb x 13 })
    go rest s =
        let n : length rest ≤ longest = elim (cases_lt (length rest) longest) [ inl l ↦ omega arith | inr l ↦ let k : min longest (length rest) ≡ longest = min-eq_left l in let c = s.count in absurd (omega arith) ] in
        let k : b.used ≡ length rest = under (length rest) b.used s.count n in
        let m : length (rest ++ (x ∷ [])) ≡ length rest + 1 = length_push rest x in
        record {
          unended = unbroken_push rest x s.unended (λ t e q. on (ends-cr b.cr rest t s.cr e) q);
          count =
              let z : b.used + 1 ≡ length (rest ++ (x ∷ [])) = omega arith in
              let q : length (rest ++ (x ∷ [])) ≤ longest = omega arith in
              z ∙ sym (min-eq_right q);
          front =
              take_more_set b.octets b.used x (omega arith) ∙ ap (λ t. t ++ (x ∷ [])) (s.front ∙ take_all longest rest n)
              ∙ sym (take_all longest (rest ++ (x ∷ [])) (omega arith));
          long = s.long ∙ le-ltb longest (length rest) n ∙ sym (le-ltb longest (length (rest ++ (x ∷ []))) (omega arith));
          cr = cr_pushed (eqb x 13) rest x refl;
        }

-- The line goes on, and is too long.
pub pushed_long : (b : LineBuffer) (x : ℕ) → (b.cr ≡ true → x ≡ 10 → ⊥) → longest ≤ b.used → LinePushed b (record { octets = b.octets; used = b.used; long = true; cr = eqb x 13 }) x false
pushed_long b x on room = record { after = go }
  where
    go : (rest : List ℕ) → LineStands rest b → LineStands (rest ++ (x ∷ [])) (record { octets = b.octets; used = b.used; long = true; cr = eqb x 13 })
    go rest s =
        let n : longest ≤ length rest = elim (cases_lt (length rest) longest) [ inl l ↦ let q : length rest ≤ longest = omega arith in let k : min longest (length rest) ≡ length rest = min-eq_right q in let c = s.count in absurd (omega arith) | inr l ↦ l ] in
        let m : length (rest ++ (x ∷ [])) ≡ length rest + 1 = length_push rest x in
        record {
          unended = unbroken_push rest x s.unended (λ t e q. on (ends-cr b.cr rest t s.cr e) q);
          count = let q : longest ≤ length (rest ++ (x ∷ [])) = omega arith in s.count ∙ min-eq_left n ∙ sym (min-eq_left q);
          front = s.front ∙ sym (take-append-le longest rest (x ∷ []) n);
          long = sym (lt-ltb longest (length (rest ++ (x ∷ []))) (omega arith));
          cr = cr_pushed (eqb x 13) rest x refl;
        }

-- A line that is too long already ends.
pub closed_long : (b : LineBuffer) → b.cr ≡ true → b.long ≡ true → LinePushed b b 10 true
closed_long b cr long = record { after = go }
  where
    go : (rest : List ℕ) → LineStands rest b → LineEnds (rest ++ (10 ∷ [])) b
    go rest s =
        let P : Bool → Type 0 = λ w. CrLast w rest in
        let g = subst P cr s.cr in
        let t = g.0 in
        let U : List ℕ → Type 0 = λ r. Unbroken r in
        let over : longest < length rest = ltb-true longest (length rest) (sym s.long ∙ long) in
        let n : length rest ≡ length t + 1 = ap length g.1 ∙ length_push t 13 in
        let m = length_push rest 10 in
        record {
          text = t;
          whole = ap (λ r. r ++ (10 ∷ [])) g.1 ∙ append_assoc t (13 ∷ []) (10 ∷ []);
          first = unbroken_front t (13 ∷ []) (subst U g.1 s.unended);
          front = s.front ∙ ap (take longest) g.1 ∙ take-append-le longest t (13 ∷ []) (omega arith);
          long = long ∙ sym (lt-ltb longest (length (rest ++ (10 ∷ []))) (omega arith));
        }

-- Whether there are so many is told by the octets kept.
full : (used n m : ℕ) → used ≡ n → m ≡ n + 1 → leb longest used ≡ ltb longest m
full used n m e q =
    elim (cases_lt used longest) [
      | inl l ↦ lt-leb longest used l ∙ sym (le-ltb longest m (omega arith))
      | inr l ↦ le-leb longest used l ∙ sym (lt-ltb longest m (omega arith))
    ]

-- Any other line ends.
pub closed_short : (b : LineBuffer) (used : ℕ) → b.cr ≡ true → b.long ≡ false → used ≡ b.used - 1 → LinePushed b (record { octets = b.octets; used = used; long = leb longest b.used; cr = b.cr }) 10 true
closed_short b used cr long less = record { after = go }
  where
    go : (rest : List ℕ) → LineStands rest b → LineEnds (rest ++ (10 ∷ [])) (record { octets = b.octets; used = used; long = leb longest b.used; cr = b.cr })
    go rest s =
        let P : Bool → Type 0 = λ w. CrLast w rest in
        let g = subst P cr s.cr in
        let t = g.0 in
        let U : List ℕ → Type 0 = λ r. Unbroken r in
        let few : length rest ≤ longest = ltb-false longest (length rest) (sym s.long ∙ long) in
        let k : b.used ≡ length rest = under (length rest) b.used s.count few in
        let n : length rest ≡ length t + 1 = ap length g.1 ∙ length_push t 13 in
        let whole : kept b ≡ t ++ (13 ∷ []) = s.front ∙ take_all longest rest few ∙ g.1 in
        record {
          text = t;
          whole = ap (λ r. r ++ (10 ∷ [])) g.1 ∙ append_assoc t (13 ∷ []) (10 ∷ []);
          first = unbroken_front t (13 ∷ []) (subst U g.1 s.unended);
          front =
              sym (take-take used b.used b.octets (omega arith)) ∙ ap (take used) whole ∙ take_at t (13 ∷ []) used (omega arith)
              ∙ sym (take_all longest t (omega arith));
          long = full b.used (length rest) (length (rest ++ (10 ∷ []))) k (length_push rest 10);
        }

short : (line : List ℕ) (b : LineBuffer) → LineEnds line b → b.long ≡ false → line ≡ ended (kept b)
short line b e q =
    let few : length line ≤ longest = ltb-false longest (length line) (sym e.long ∙ q) in
    let n : length line ≡ length e.text + 2 = ap length e.whole ∙ length-append e.text (13 ∷ 10 ∷ []) in
    e.whole ∙ ap ended (sym (e.front ∙ take_all longest e.text (omega arith)))

one-cr : (w v : Bool) (xs : List ℕ) → CrLast w xs → CrLast v xs → w ≡ v
one-cr true true xs a b = refl
one-cr true false xs a b = absurd (b a.0 a.1)
one-cr false true xs a b = absurd (a b.0 b.1)
one-cr false false xs a b = refl

same_text : (line s t : List ℕ) → line ≡ ended s → line ≡ ended t → Unbroken s → Unbroken t → s ≡ t
same_text line s t p q a b = (first_break s t [] [] a b (sym p ∙ q)).0

pub laws : BufferLaws
laws = record {
  short = short;
  stands = λ rest b c s t. (s.front ∙ sym t.front, s.long ∙ sym t.long, one-cr b.cr c.cr rest s.cr t.cr);
  ends = λ line b c s t. (s.front ∙ ap (take longest) (same_text line s.text t.text s.whole t.whole s.first t.first) ∙ sym t.front, s.long ∙ sym t.long);
  apart = λ octets b c s t. s.unended t.text [] t.whole;
}
