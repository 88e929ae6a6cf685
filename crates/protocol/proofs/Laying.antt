-- Payload laid at the front of an area.
use Rattle.std.proofs.Common.{◌≡◌, ℕ, ◌+◌, ◌<◌, ◌≤◌, Bool, true, false, cond, leb, ◌⊎◌, List, [], ◌∷◌, ◌++◌, length, take, drop, set, Some, None, Option, sym, refl, ap, ◌∙◌, subst, inl, inr, append_assoc, zero-le, add-one, arith}
use native.Mathlib.Nat.{min-eq_left, min-eq_right}
use Rattle.std.proofs.lemmas.List.{append-nil, length-append, length-drop, length-take-le, take_all, take_at, take-append-le, take-append-drop, drop_all, drop_at, drop-drop, set_split}
use Rattle.std.proofs.lemmas.Bool.{both_ways, cases_lt, lt-ltb, le-ltb, le-leb, lt-leb}
use Rattle.protocol.specs.declared.part.DataPart.{DataPart}
use Rattle.protocol.specs.DataParts.{Laid, Adds, filled}
use Rattle.protocol.specs.Outputs.{overlaid}

pub laid_none : (was : List ℕ) → Laid [] was was 0 false
laid_none was = record { count = sym (min-eq_left zero-le); past = sym (le-ltb (length was) 0 (omega arith)); holds = sym (ap (λ t. t ++ was) (take_all (length was) [] (omega arith))) }

-- Payload that the area has room for.
record Fits (payload was area : List ℕ) (kept : ℕ) (over : Bool) : Type 0 where
  pub fits : length payload ≤ length was
  pub count : kept ≡ length payload
  pub past : over ≡ false
  pub holds : area ≡ payload ++ drop (length payload) was

-- Payload that it has no room for.
record Over (payload was area : List ℕ) (kept : ℕ) (over : Bool) : Type 0 where
  pub more : length was < length payload
  pub count : kept ≡ length was
  pub past : over ≡ true
  pub holds : area ≡ take (length was) payload

laid-fits : (payload was area : List ℕ) (kept : ℕ) (over : Bool) → Fits payload was area kept over → Laid payload was area kept over
laid-fits payload was area kept over f = record {
  count = f.count ∙ sym (min-eq_left f.fits);
  past = f.past ∙ sym (le-ltb (length was) (length payload) f.fits);
  holds = f.holds ∙ ap (λ t. t ++ drop (length payload) was) (sym (take_all (length was) payload f.fits));
}

laid-over : (payload was area : List ℕ) (kept : ℕ) (over : Bool) → Over payload was area kept over → Laid payload was area kept over
laid-over payload was area kept over o =
    let m = o.more in
    let le : length was ≤ length payload = omega arith in
    record {
      count = o.count ∙ sym (min-eq_right le);
      past = o.past ∙ sym (lt-ltb (length was) (length payload) m);
      holds = o.holds ∙ sym (append-nil (take (length was) payload)) ∙ ap (λ t. take (length was) payload ++ t) (sym (drop_all (length payload) was le));
    }

laid_cases : (payload was area : List ℕ) (kept : ℕ) (over : Bool) → Laid payload was area kept over → Fits payload was area kept over ⊎ Over payload was area kept over
laid_cases payload was area kept over l =
    elim (cases_lt (length was) (length payload)) [
      | inl m ↦
          let le : length was ≤ length payload = omega arith in
          inr (record {
            more = m;
            count = l.count ∙ min-eq_right le;
            past = l.past ∙ lt-ltb (length was) (length payload) m;
            holds = l.holds ∙ ap (λ t. take (length was) payload ++ t) (drop_all (length payload) was le) ∙ append-nil (take (length was) payload);
          })
      | inr m ↦
          inl (record {
            fits = m;
            count = l.count ∙ min-eq_left m;
            past = l.past ∙ le-ltb (length was) (length payload) m;
            holds = l.holds ∙ ap (λ t. t ++ drop (length payload) was) (take_all (length was) payload m);
          })
    ]

pub laid_is : (payload was area area' : List ℕ) (kept kept' : ℕ) (over over' : Bool) → area ≡ area' → kept ≡ kept' → over ≡ over' → Laid payload was area' kept' over' → Laid payload was area kept over
laid_is payload was area area' kept kept' over over' a k o l = record { count = k ∙ l.count; past = o ∙ l.past; holds = a ∙ l.holds }

fits_long : (payload was area : List ℕ) (kept : ℕ) (over : Bool) → Fits payload was area kept over → length area ≡ length was
fits_long payload was area kept over f =
    let n = ap length f.holds ∙ length-append payload (drop (length payload) was) in
    let m = length-drop (length payload) was in
    let k = f.fits in
    omega arith

over_long : (payload was area : List ℕ) (kept : ℕ) (over : Bool) → Over payload was area kept over → length area ≡ length was
over_long payload was area kept over o = let m = o.more in ap length o.holds ∙ length-take-le (length was) payload (omega arith)

-- The area stays as long as it was.
pub laid_long : (payload was area : List ℕ) (kept : ℕ) (over : Bool) → Laid payload was area kept over → length area ≡ length was
laid_long payload was area kept over l =
    elim (laid_cases payload was area kept over l) [ inl f ↦ fits_long payload was area kept over f | inr o ↦ over_long payload was area kept over o ]

-- It has room for what it keeps.
pub laid_within : (payload was area : List ℕ) (kept : ℕ) (over : Bool) → Laid payload was area kept over → kept ≤ length area
laid_within payload was area kept over l =
    let n = laid_long payload was area kept over l in
    elim (laid_cases payload was area kept over l) [
      | inl f ↦ let k = f.count in let m = f.fits in omega arith
      | inr o ↦ let k = o.count in omega arith
    ]

-- Payload that is not over lies whole at the front.
pub laid-whole : (payload was area : List ℕ) (kept : ℕ) (over : Bool) → Laid payload was area kept over → over ≡ false → (kept ≡ length payload) × (take kept area ≡ payload)
laid-whole payload was area kept over l e =
    elim (laid_cases payload was area kept over l) [
      | inl f ↦ (f.count, ap (take kept) f.holds ∙ take_at payload (drop (length payload) was) kept (sym f.count))
      | inr o ↦ absurd (both_ways over e o.past)
    ]

-- No octets.
laid_same : (xs payload was area : List ℕ) (kept : ℕ) (over : Bool) → length xs ≡ 0 → Laid payload was area kept over → Laid (payload ++ xs) was (overlaid area kept xs) (kept + length xs) over
laid_same [] payload was area kept over z l =
    let P : List ℕ → Type 0 = λ t. Laid t was area kept over in
    let k : kept + 0 ≡ kept = omega arith in
    laid_is (payload ++ []) was (overlaid area kept []) area (kept + 0) kept over over (ap (λ i. take kept area ++ drop i area) k ∙ take-append-drop kept area) k refl
    (subst P (sym (append-nil payload)) l)
laid_same (x ∷ xs) payload was area kept over z l = absurd (omega arith)

-- Octets that the area has room for.
pub adds_all : (xs payload was area : List ℕ) (kept : ℕ) (over : Bool) → kept + length xs ≤ length area → Laid payload was area kept over → Laid (payload ++ xs) was (overlaid area kept xs) (kept + length xs) over
adds_all xs payload was area kept over room l =
    elim (laid_cases payload was area kept over l) [
      | inl f ↦
          let n = fits_long payload was area kept over f in
          let k : kept ≡ length payload = f.count in
          let p : length (payload ++ xs) ≡ length payload + length xs = length-append payload xs in
          let front : take kept area ≡ payload = ap (take kept) f.holds ∙ take_at payload (drop (length payload) was) kept (sym k) in
          let back : drop kept area ≡ drop (length payload) was = ap (drop kept) f.holds ∙ drop_at payload (drop (length payload) was) kept (sym k) in
          let rest : drop (kept + length xs) area ≡ drop (length (payload ++ xs)) was =
          sym (drop-drop (length xs) kept area) ∙ ap (drop (length xs)) back ∙ drop-drop (length xs) (length payload) was ∙ ap (λ i. drop i was) (sym p)
          in
          laid-fits (payload ++ xs) was (overlaid area kept xs) (kept + length xs) over
          (record {
            fits = omega arith;
            count = omega arith;
            past = f.past;
            holds =
                ap (λ t. t ++ (xs ++ drop (kept + length xs) area)) front ∙ ap (λ t. payload ++ (xs ++ t)) rest
                ∙ sym (append_assoc payload xs (drop (length (payload ++ xs)) was));
          })
      | inr o ↦ let n = over_long payload was area kept over o in let k = o.count in laid_same xs payload was area kept over (omega arith) l
    ]

-- Octets that come when the area is full.
pub adds_none : (xs payload was area : List ℕ) (kept : ℕ) (over : Bool) → length area ≤ kept → 0 < length xs → Laid payload was area kept over → Laid (payload ++ xs) was area kept true
adds_none xs payload was area kept over full some l =
    let p : length (payload ++ xs) ≡ length payload + length xs = length-append payload xs in
    elim (laid_cases payload was area kept over l) [
      | inl f ↦
          let n = fits_long payload was area kept over f in
          let k : kept ≡ length payload = f.count in
          let m : length payload ≤ length was = f.fits in
          let same : length payload ≡ length was = omega arith in
          laid-over (payload ++ xs) was area kept true
          (record {
            more = omega arith;
            count = omega arith;
            past = refl;
            holds = f.holds ∙ ap (λ t. payload ++ t) (drop_all (length payload) was (omega arith)) ∙ append-nil payload ∙ sym (take_at payload xs (length was) same);
          })
      | inr o ↦
          let m : length was < length payload = o.more in
          laid-over (payload ++ xs) was area kept true
          (record { more = omega arith; count = o.count; past = refl; holds = o.holds ∙ sym (take-append-le (length was) payload xs (omega arith)) })
    ]

-- Octets that fill the area and go past it.
pub adds_part : (xs part payload was area : List ℕ) (kept room : ℕ) (over : Bool) → kept + room ≡ length area → room < length xs → part ≡ take room xs → Laid payload was area kept over → Laid (payload ++ xs) was (overlaid area kept part) (length area) true
adds_part xs part payload was area kept room over is short cut l =
    let area' = overlaid area kept part in
    let n : length part ≡ room = ap length cut ∙ length-take-le room xs (omega arith) in
    let first : Laid (payload ++ part) was area' (kept + length part) over = adds_all part payload was area kept over (omega arith) l in
    let long : length area' ≡ length was = laid_long (payload ++ part) was area' (kept + length part) over first in
    let same : length area ≡ length was = laid_long payload was area kept over l in
    let left = length-drop room xs in
    let q = adds_none (drop room xs) (payload ++ part) was area' (kept + length part) over (omega arith) (omega arith) first in
    let whole : (payload ++ part) ++ drop room xs ≡ payload ++ xs =
    append_assoc payload part (drop room xs) ∙ ap (λ t. payload ++ (t ++ drop room xs)) cut ∙ ap (λ t. payload ++ t) (take-append-drop room xs)
    in
    let P : List ℕ → Type 0 = λ t. Laid t was area' (kept + length part) true in
    laid_is (payload ++ xs) was area' area' (length area) (kept + length part) true true refl (omega arith) refl (subst P whole q)

-- One octet that the area has room for.
pub adds_one : (x : ℕ) (payload was area : List ℕ) (kept : ℕ) (over : Bool) → kept < length area → Laid payload was area kept over → Laid (payload ++ (x ∷ [])) was (set area kept x) (kept + 1) over
adds_one x payload was area kept over lt l =
    let P : List ℕ → Type 0 = λ t. Laid (payload ++ (x ∷ [])) was t (kept + 1) over in
    subst P (ap (λ i. take kept area ++ (x ∷ drop i area)) (add-one kept) ∙ sym (set_split area kept x lt)) (adds_all (x ∷ []) payload was area kept over (omega arith) l)

-- What of the area is written, where the payload goes on.
pub laid_front : (payload tail was area : List ℕ) (kept : ℕ) (over : Bool) → Laid payload was area kept over → (kept ≤ length (payload ++ tail)) × (take kept area ≡ take kept (payload ++ tail)) × (drop kept area ≡ drop kept was)
laid_front payload tail was area kept over l =
    let p : length (payload ++ tail) ≡ length payload + length tail = length-append payload tail in
    elim (laid_cases payload was area kept over l) [
      | inl f ↦
          let k : kept ≡ length payload = f.count in
          let rest = drop (length payload) was in (
            omega arith,
            ap (take kept) f.holds ∙ take_at payload rest kept (sym k) ∙ sym (take_at payload tail kept (sym k)),
            ap (drop kept) f.holds ∙ drop_at payload rest kept (sym k) ∙ ap (λ i. drop i was) (sym k),
          )
      | inr o ↦
          let n = over_long payload was area kept over o in
          let k : kept ≡ length was = o.count in
          let m : length was < length payload = o.more in (
            omega arith,
            take_all kept area (omega arith) ∙ o.holds ∙ sym (take-append-le (length was) payload tail (omega arith)) ∙ ap (λ i. take i (payload ++ tail)) (sym k),
            drop_all kept area (omega arith) ∙ sym (drop_all kept was (omega arith)),
          )
    ]

pub one-laid : (payload was a b : List ℕ) (k l : ℕ) (o w : Bool) → Laid payload was a k o → Laid payload was b l w → (k ≡ l) × (o ≡ w) × (a ≡ b)
one-laid payload was a b k l o w g h = (g.count ∙ sym h.count, g.past ∙ sym h.past, g.holds ∙ sym h.holds)

-- What is told of payload that is laid.
pub told_is : (payload was area : List ℕ) (kept : ℕ) (over : Bool) → Laid payload was area kept over → cond over None (Some kept) ≡ cond (leb (length payload) (length was)) (Some (length payload)) None
told_is payload was area kept over l =
    let Q : Bool → Option ℕ = λ w. cond w (Some (length payload)) None in
    elim (laid_cases payload was area kept over l) [
      | inl f ↦ ap (λ w. cond w None (Some kept)) f.past ∙ ap (λ k. Some k) f.count ∙ ap Q (sym (le-leb (length payload) (length was) f.fits))
      | inr o ↦ ap (λ w. cond w None (Some kept)) o.past ∙ ap Q (sym (lt-leb (length payload) (length was) o.more))
    ]

-- As much of the area is payload as is kept.
pub filled_is : (payload was area : List ℕ) (kept : ℕ) (over : Bool) → Laid payload was area kept over → filled (cond over None (Some kept)) area ≡ kept
filled_is payload was area kept over l =
    elim (laid_cases payload was area kept over l) [
      | inl f ↦ ap (λ w. filled (cond w None (Some kept)) area) f.past
      | inr o ↦ ap (λ w. filled (cond w None (Some kept)) area) o.past ∙ over_long payload was area kept over o ∙ sym o.count
    ]

-- Nothing added, and one after another.
pub adds_nothing : (p q : DataPart) (area : List ℕ) → p.kept ≡ q.kept → p.over ≡ q.over → Adds [] p q area area
adds_nothing p q area k o = record {
  lays = λ payload was l.
      let P : List ℕ → Type 0 = λ t. Laid t was area q.kept q.over in
      subst P (sym (append-nil payload)) (laid_is payload was area area q.kept p.kept q.over p.over refl (sym k) (sym o) l);
}

pub adds_both : (xs ys : List ℕ) (d e f : DataPart) (a b c : List ℕ) → Adds xs d e a b → Adds ys e f b c → Adds (xs ++ ys) d f a c
adds_both xs ys d e f a b c g h = record {
  lays = λ payload was l.
      let P : List ℕ → Type 0 = λ t. Laid t was c f.kept f.over in
      subst P (append_assoc payload xs ys) (h.lays (payload ++ xs) was (g.lays payload was l));
}
