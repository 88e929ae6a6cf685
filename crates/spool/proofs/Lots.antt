-- Laws of a lot over what lies in filing order.
use Rattle.std.proofs.Common.{◌≡◌, ℕ, ◌+◌, ◌-◌, ◌<◌, ◌≤◌, true, false, List, [], ◌∷◌, ◌++◌, map, length, take, drop, Some, None, Ok, Err, Option, Result, sym, refl, ap, ◌∙◌, arith}
use Rattle.std.specs.List.{slice_get}
use Rattle.std.specs.Option.{is_some, option_map, unwrap_or}
use Rattle.std.specs.Result.{MatchResult, IsOkAnd}
use Rattle.std.proofs.lemmas.List.{append-nil, drop_all, drop-append-le, drop-map, length-drop, length-map, length-take, length-take-le, take_all, take-append-drop, take-append-le, take-map}
use Rattle.std.proofs.lemmas.Option.{slice_get-map, slice_get_within}
use Rattle.refusals.specs.Refusals.{Notice, notice, plain, told}
use Rattle.refusals.specs.declared.refusal.Refusal.{Refusal}
use Rattle.refusals.specs.declared.refusal.RoomFault.{RoomFault}
use Rattle.spool.specs.Entries.{Entry}
use Rattle.spool.specs.Lists.{present}
use Rattle.spool.specs.Lots.{filed_in, held_before, held_in, lot_in, part_in}
use Rattle.spool.specs.Rules.{copied, copied_of, copies, copies_of, extended, opened, opens, staged, summary, tells}
use Rattle.spool.specs.declared.entry.Part.{Part}
use Rattle.spool.specs.declared.entry.Part.TheVariants.{Held, Staged}
use Rattle.spool.specs.declared.entry.Summary.{Summary}
use Rattle.spool.specs.declared.lot.Lot.{Lot}
use Rattle.spool.proofs.Fronts.{present_none, present_some}
use Rattle.spool.proofs.Places.{nth-take, nth_drop}
use Rattle.spool.proofs.Told.{copied_done, copied_short, copies_done, copies_short, extended_done, tells_at}

-- A lot is open or not.
none_open : {X : Type 0} (o : Option X) → false ≡ is_some o → o ≡ None
none_open None h = refl
none_open (Some x) h = cc

some_open : (o : Option ℕ) (n : ℕ) → is_some o ≡ true → o ≡ Some (unwrap_or o n)
some_open None n h = cc
some_open (Some k) n h = refl

pub filed_some : (l : Lot) (n : ℕ) → is_some l.held ≡ true → l.held ≡ Some (filed_in l n)
filed_some l n h = some_open l.held n h

-- While none is open, all are held.
module _ (l : Lot) (closed : false ≡ is_some l.held) where
  pub filed_all : (n : ℕ) → filed_in l n ≡ n
  filed_all n = ap (λ v. unwrap_or v n) (none_open l.held closed)

  pub lot_none : {X : Type 0} (xs : List X) → lot_in l xs ≡ None
  lot_none xs = ap (option_map (λ n. drop n xs)) (none_open l.held closed)

  pub held_all : {X : Type 0} (xs : List X) → held_in l xs ≡ xs
  held_all xs = ap (λ v. held_before v xs) (none_open l.held closed)

-- What is staged lies behind what is held.
whole : {X : Type 0} (o : Option ℕ) (xs : List X) → held_before o xs ++ staged (option_map (λ n. drop n xs) o) ≡ xs
whole None xs = append-nil xs
whole (Some n) xs = take-append-drop n xs

pub parts_whole : {X : Type 0} (l : Lot) (xs : List X) → held_in l xs ++ staged (lot_in l xs) ≡ xs
parts_whole l xs = whole l.held xs

before : {X : Type 0} (o : Option ℕ) (xs : List X) (n : ℕ) → length xs ≡ n → held_before o xs ≡ take (unwrap_or o n) xs
before None xs n e = sym (take_all n xs (omega arith))
before (Some k) xs n e = refl

behind : {X : Type 0} (o : Option ℕ) (xs : List X) (n : ℕ) → length xs ≡ n → staged (option_map (λ k. drop k xs) o) ≡ drop (unwrap_or o n) xs
behind None xs n e = sym (drop_all n xs (omega arith))
behind (Some k) xs n e = refl

begun : (o : Option ℕ) (es : List Entry) (n : ℕ) → length es ≡ n → Some (drop (unwrap_or o n) es) ≡ opened (option_map (λ k. drop k es) o)
begun None es n e = ap (λ v. Some v) (drop_all n es (omega arith))
begun (Some k) es n e = refl

module _ {X : Type 0} (l : Lot) (xs : List X) (n : ℕ) (long : length xs ≡ n) where
  pub held_is : held_in l xs ≡ take (filed_in l n) xs
  held_is = before l.held xs n long

  pub staged_is : staged (lot_in l xs) ≡ drop (filed_in l n) xs
  staged_is = behind l.held xs n long

  pub lot_some : is_some l.held ≡ true → lot_in l xs ≡ Some (drop (filed_in l n) xs)
  lot_some h = ap (option_map (λ k. drop k xs)) (filed_some l n h)

  pub held_length : filed_in l n ≤ n → length (held_in l xs) ≡ filed_in l n
  held_length h = ap length held_is ∙ length-take-le (filed_in l n) xs (omega (arith, long))

  pub staged-length : length (staged (lot_in l xs)) ≡ n - filed_in l n
  staged-length = ap length staged_is ∙ length-drop (filed_in l n) xs ∙ ap (λ v. v - filed_in l n) long

  -- What stands at a place of a part.
  pub held_nth : (at : ℕ) → at < filed_in l n → slice_get (held_in l xs) at ≡ slice_get xs at
  held_nth at h = ap (λ v. slice_get v at) held_is ∙ nth-take (filed_in l n) xs at h

  pub staged-nth : (at : ℕ) → slice_get (staged (lot_in l xs)) at ≡ slice_get xs (filed_in l n + at)
  staged-nth at = ap (λ v. slice_get v at) staged_is ∙ nth_drop (filed_in l n) xs at

  -- A lot that is opened behind them.
  pub held_opened : (l' : Lot) → l'.held ≡ Some (filed_in l n) → held_in l' xs ≡ held_in l xs
  held_opened l' e = ap (λ v. held_before v xs) e ∙ sym held_is

  -- More behind them, while it is open.
  pub held_longer : (ys : List X) → is_some l.held ≡ true → filed_in l n ≤ n → held_in l (xs ++ ys) ≡ held_in l xs
  held_longer ys o h =
      ap (λ v. held_before v (xs ++ ys)) (filed_some l n o) ∙ take-append-le (filed_in l n) xs ys (omega (arith, long)) ∙ sym held_is

  pub lot_longer : (ys : List X) → is_some l.held ≡ true → filed_in l n ≤ n → lot_in l (xs ++ ys) ≡ Some (drop (filed_in l n) xs ++ ys)
  lot_longer ys o h =
      ap (option_map (λ k. drop k (xs ++ ys))) (filed_some l n o) ∙ ap (λ v. Some v) (drop-append-le (filed_in l n) xs ys (omega (arith, long)))

pub lot_opened : (l l' : Lot) (es : List Entry) (n : ℕ) → length es ≡ n → l'.held ≡ Some (filed_in l n) → lot_in l' es ≡ opened (lot_in l es)
lot_opened l l' es n long e = ap (option_map (λ k. drop k es)) e ∙ begun l.held es n long

opened_by : (o : Option ℕ) (es : List Entry) → opens o ≡ opens (option_map (λ k. drop k es) o)
opened_by None es = refl
opened_by (Some k) es = refl

pub opens_by : (l : Lot) (es : List Entry) → opens l.held ≡ opens (lot_in l es)
opens_by l es = opened_by l.held es

pub lot_extended : (l : Lot) (es : List Entry) (n : ℕ) (e : Entry) (f : Option RoomFault) → length es ≡ n → is_some l.held ≡ true → filed_in l n ≤ n →
    e.mailbox < 64 → f ≡ None → lot_in l (es ++ e ∷ []) ≡ extended (lot_in l es) f e
lot_extended l es n e f long o h m r =
    lot_longer l es n long (e ∷ []) o h ∙ extended_done e (lot_in l es) f (drop (filed_in l n) es) m (lot_some l es n long o) r

-- What stands in a part stands among all.
held_place : {X : Type 0} (o : Option ℕ) (xs : List X) (at : ℕ) (x : X) → slice_get (held_before o xs) at ≡ Some x → slice_get xs at ≡ Some x
held_place None xs at x h = h
held_place (Some n) xs at x h = sym (nth-take n xs at (omega (arith, slice_get_within (take n xs) at x h, length-take n xs))) ∙ h

staged_place : {X : Type 0} (o : Option ℕ) (xs : List X) (at : ℕ) (x : X) → slice_get (staged (option_map (λ n. drop n xs) o)) at ≡ Some x → slice_get xs (unwrap_or o 0 + at) ≡ Some x
staged_place None xs at x h = cc
staged_place (Some n) xs at x h = sym (nth_drop n xs at) ∙ h

pub part_place : {X : Type 0} (part : Part) (l : Lot) (xs : List X) (at : ℕ) (x : X) → slice_get (part_in part l xs) at ≡ Some x → (k : ℕ) × (slice_get xs k ≡ Some x)
part_place Held l xs at x h = (at, held_place l.held xs at x h)
part_place Staged l xs at x h = (unwrap_or l.held 0 + at, staged_place l.held xs at x h)

-- Entries by their rows.
held_mapped : {X Y : Type 0} (f : X → Y) (o : Option ℕ) (rs : List X) → held_before o (map f rs) ≡ map f (held_before o rs)
held_mapped f None rs = refl
held_mapped f (Some n) rs = take-map f n rs

staged_mapped : {X Y : Type 0} (f : X → Y) (o : Option ℕ) (rs : List X) → staged (option_map (λ n. drop n (map f rs)) o) ≡ map f (staged (option_map (λ n. drop n rs) o))
staged_mapped f None rs = refl
staged_mapped f (Some n) rs = drop-map f n rs

pub part_mapped : {X Y : Type 0} (f : X → Y) (part : Part) (l : Lot) (rs : List X) → part_in part l (map f rs) ≡ map f (part_in part l rs)
part_mapped f Held l rs = held_mapped f l.held rs
part_mapped f Staged l rs = staged_mapped f l.held rs

module _ {X : Type 0} (f : X → Entry) (part : Part) (l : Lot) (es : List Entry) (rs : List X) (by : es ≡ map f rs) where
  pub part_by_rows : part_in part l es ≡ map f (part_in part l rs)
  part_by_rows = ap (part_in part l) by ∙ part_mapped f part l rs

  pub part-length : length (part_in part l es) ≡ length (part_in part l rs)
  part-length = ap length part_by_rows ∙ length-map (part_in part l rs) f

  module _ (at : ℕ) where
    pub part_at : slice_get (part_in part l es) at ≡ option_map f (slice_get (part_in part l rs) at)
    part_at = ap (λ v. slice_get v at) part_by_rows ∙ slice_get-map f (part_in part l rs) at

    pub row_none : slice_get (part_in part l rs) at ≡ None → slice_get (part_in part l es) at ≡ None
    row_none n = part_at ∙ ap (option_map f) n

    pub row_some : (r : X) → slice_get (part_in part l rs) at ≡ Some r → slice_get (part_in part l es) at ≡ Some (f r)
    row_some r n = part_at ∙ ap (option_map f) n

    -- What is told of a row that was asked for, where the row tells what its entry does.
    pub entry_told : (by_row : X → Summary) → ((r : X) → slice_get (part_in part l rs) at ≡ Some r → by_row r ≡ summary (f r)) →
        (r : Result X Refusal) (q : Result Summary Refusal) → told r ≡ present (slice_get (part_in part l rs) at) →
        MatchResult r (λ x. IsOkAnd q (λ v. v ≡ by_row x)) (λ e. q ≡ Err e) → told q ≡ tells (part_in part l es) at
    entry_told by_row same (Ok x) (Ok v) h k =
        let n = present_some (slice_get (part_in part l rs) at) x h in
        ap (λ w. Ok w) (k ∙ same x n) ∙ tells_at (part_in part l es) at (f x) (row_some x n)
    entry_told by_row same (Ok x) (Err e) h k = absurd k
    entry_told by_row same (Err e) q h k =
        let n = present_none (slice_get (part_in part l rs) at) (notice e) h in
        let absent : ◌≡◌ {A = Result X Notice} (Err (notice e)) (Err (plain 13)) = h ∙ ap present n in
        ap told k ∙ (let gone : ◌≡◌ {A = Result Summary Notice} (Err (notice e)) (Err (plain 13)) = cc in gone) ∙ sym (ap (λ v. present (option_map summary v)) (row_none n))

-- A copy of a held entry's payload, by its row, which tells that it has `len` octets.
module _ {X : Type 0} (f : X → Entry) (l : Lot) (es : List Entry) (rs : List X) (by : es ≡ map f rs) (at : ℕ) (b : List ℕ) (r : X)
    (n : slice_get (part_in Held l rs) at ≡ Some r) (len : ℕ) (long : length (f r).payload ≡ len) where
  held-row : slice_get (held_in l es) at ≡ Some (f r)
  held-row = row_some f Held l es rs by at r n

  pub short_answer : length b < len → Err (plain 9) ≡ copies (held_in l es) at (length b)
  short_answer h = copies_short (held_in l es) at b (f r) held-row (omega (arith, long))

  pub short_buffer : length b < len → b ≡ copied (held_in l es) at b
  short_buffer h = copied_short (held_in l es) at b (f r) held-row (omega (arith, long))

  pub done_answer : len ≤ length b → Ok len ≡ copies (held_in l es) at (length b)
  done_answer h = ap (λ v. Ok v) (sym long) ∙ copies_done (held_in l es) at b (f r) held-row (omega (arith, long))

  pub done_buffer : len ≤ length b → (f r).payload ++ drop len b ≡ copied (held_in l es) at b
  done_buffer h = ap (λ v. (f r).payload ++ drop v b) (sym long) ∙ copied_done (held_in l es) at b (f r) held-row (omega (arith, long))

-- No copy where there is no row.
module _ {X : Type 0} (f : X → Entry) (l : Lot) (es : List Entry) (rs : List X) (by : es ≡ map f rs) (at : ℕ) (b : List ℕ) (e : Notice)
    (absent : Err e ≡ present (slice_get (part_in Held l rs) at)) where
  no_entry : slice_get (held_in l es) at ≡ None
  no_entry = row_none f Held l es rs by at (present_none (slice_get (part_in Held l rs) at) e absent)

  pub absent_answer : Err e ≡ copies (held_in l es) at (length b)
  absent_answer =
      let n : ◌≡◌ {A = Result X Notice} (Err e) (Err (plain 13)) = absent ∙ ap present (present_none (slice_get (part_in Held l rs) at) e absent) in
      (let gone : ◌≡◌ {A = Result ℕ Notice} (Err e) (Err (plain 13)) = cc in gone) ∙ sym (ap (λ v. copies_of v (length b)) no_entry)

  pub absent_buffer : b ≡ copied (held_in l es) at b
  absent_buffer = sym (ap (λ v. copied_of v b) no_entry)

-- An answer to a question for a row among some that are those of all.
module _ {X : Type 0} (part : Part) (l : Lot) (at : ℕ) (vs rs : List X) (all : vs ≡ rs) where
  pub asked : present (slice_get (part_in part l vs) at) ≡ present (slice_get (part_in part l rs) at)
  asked = ap (λ v. present (slice_get (part_in part l v) at)) all

  pub found : (r : X) → Ok r ≡ present (slice_get (part_in part l vs) at) → slice_get (part_in part l rs) at ≡ Some r
  found r h = present_some _ r (h ∙ asked)
