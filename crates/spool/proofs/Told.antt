-- Laws of what a spool's calls answer and leave, for those who implement or use one.
use Rattle.std.proofs.Common.{◌≡◌, ℕ, zero, suc, ◌<◌, ◌≤◌, ltb, leb, List, [], ◌∷◌, ◌++◌, length, drop, Some, None, Ok, Err, Option, Result, sym, refl, ap, ◌∙◌, inl, inr, arith}
use Rattle.std.specs.List.{slice_get, remove}
use Rattle.std.specs.Option.{option_map}
use Rattle.std.proofs.lemmas.Bool.{cases_lt, cond-true, cond-false, lt-ltb, le-ltb, le-leb, lt-leb}
use Rattle.spool.specs.Entries.{Entry}
use Rattle.spool.specs.Lists.{present}
use Rattle.std.specs.Result.{IsErr, IsErrAnd}
use Rattle.refusals.specs.Refusals.{Notice, notice, plain, no_room, told}
use Rattle.refusals.specs.declared.refusal.Refusal.{Refusal}
use Rattle.spool.specs.Rules.{stages, stages_into, grown, extended, unless_fault, asks_room, removes, remains, summary, tells, copies_of, copies, copied, copied_of}
use Rattle.spool.specs.declared.entry.Summary.{Summary}
use Rattle.refusals.specs.declared.refusal.RoomFault.{RoomFault}
use Rattle.spool.proofs.Fronts.{nth_absent}
use Rattle.spool.proofs.Places.{nth-within}

-- An answer that hands a refusal on tells of it.
pub told_err : {T : Type 0} (r : Result T Refusal) (e : Refusal) → IsErr r → IsErrAnd r (λ x. x ≡ e) → told r ≡ Err (notice e)
told_err (Ok x) e h k = absurd k
told_err (Err x) e h k = ap (λ v. Err (notice v)) k

-- The entry at a place.
pub tells_past : (es : List Entry) (at : ℕ) → length es ≤ at → Err (plain 13) ≡ tells es at
tells_past es at h = sym (ap (λ v. present (option_map summary v)) (nth_absent es at h))

pub tells_at : (es : List Entry) (at : ℕ) (e : Entry) → slice_get es at ≡ Some e → Ok (summary e) ≡ tells es at
tells_at es at e h = sym (ap (λ v. present (option_map summary v)) h)

module _ (es : List Entry) (at : ℕ) (b : List ℕ) where
  pub copies_past : length es ≤ at → Err (plain 13) ≡ copies es at (length b)
  copies_past h = sym (ap (λ v. copies_of v (length b)) (nth_absent es at h))

  pub copied_past : length es ≤ at → b ≡ copied es at b
  copied_past h = sym (ap (λ v. copied_of v b) (nth_absent es at h))

module _ (es : List Entry) (at : ℕ) (b : List ℕ) (e : Entry) (is : slice_get es at ≡ Some e) where
  pub copies_short : length b < length e.payload → Err (plain 9) ≡ copies es at (length b)
  copies_short h = sym (ap (λ v. copies_of v (length b)) is ∙ cond-false (leb (length e.payload) (length b)) _ _ (lt-leb _ _ h))

  pub copied_short : length b < length e.payload → b ≡ copied es at b
  copied_short h = sym (ap (λ v. copied_of v b) is ∙ cond-false (leb (length e.payload) (length b)) _ _ (lt-leb _ _ h))

  pub copies_done : length e.payload ≤ length b → Ok (length e.payload) ≡ copies es at (length b)
  copies_done h = sym (ap (λ v. copies_of v (length b)) is ∙ cond-true (leb (length e.payload) (length b)) _ _ (le-leb _ _ h))

  pub copied_done : length e.payload ≤ length b → e.payload ++ drop (length e.payload) b ≡ copied es at b
  copied_done h = sym (ap (λ v. copied_of v b) is ∙ cond-true (leb (length e.payload) (length b)) _ _ (le-leb _ _ h))

-- Staging that is let through.
module _ (e : Entry) (l : Option (List Entry)) (f : Option RoomFault) (es : List Entry) where
  pub stages_done : e.mailbox < 64 → l ≡ Some es → f ≡ None → Ok tt ≡ stages e.mailbox l f
  stages_done m o r =
      sym (cond-true (ltb e.mailbox 64) (stages_into l f) (Err (plain 7)) (lt-ltb _ _ m) ∙ ap (λ v. stages_into v f) o ∙ ap unless_fault r)

  pub extended_done : e.mailbox < 64 → l ≡ Some es → f ≡ None → Some (es ++ e ∷ []) ≡ extended l f e
  extended_done m o r =
      sym (cond-true (ltb e.mailbox 64) (grown l f e) l (lt-ltb _ _ m) ∙ ap (λ v. grown v f e) o ∙ ap (λ v. grown (Some es) v e) r)

-- A removal that is let through.
module _ (l : Option (List Entry)) (h : List Entry) (at : ℕ) where
  pub removes_done : l ≡ None → at < length h → Ok tt ≡ removes l h at
  removes_done o k = sym (ap (λ v. removes v h at) o ∙ cond-true (ltb at (length h)) _ _ (lt-ltb _ _ k))

  pub remains_done : l ≡ None → at < length h → remove h at ≡ remains l h at
  remains_done o k = sym (ap (λ v. remains v h at) o ∙ cond-true (ltb at (length h)) _ _ (lt-ltb _ _ k))

  pub removes_past : l ≡ None → length h ≤ at → Err (plain 13) ≡ removes l h at
  removes_past o k = sym (ap (λ v. removes v h at) o ∙ cond-false (ltb at (length h)) _ _ (le-ltb _ _ k))

  pub remains_past : l ≡ None → length h ≤ at → h ≡ remains l h at
  remains_past o k = sym (ap (λ v. remains v h at) o ∙ cond-false (ltb at (length h)) _ _ (le-ltb _ _ k))

-- A question is refused just past the end.
pub past_end : (es : List Entry) (at : ℕ) (n : Notice) → Err n ≡ tells es at → length es ≤ at
past_end [] at n h = omega arith
past_end (x ∷ es) zero n h = let z : ◌≡◌ {A = ℕ} 0 1 = cc in absurd (omega arith)
past_end (x ∷ es) (suc at) n h = omega (arith, past_end es at n h)

pub told-entry : (es : List Entry) (at : ℕ) (s : Summary) → Ok s ≡ tells es at → (e : Entry) × ((slice_get es at ≡ Some e) × (s ≡ summary e))
told-entry [] at s h = let z : ◌≡◌ {A = ℕ} 0 1 = cc in absurd (omega arith)
told-entry (x ∷ es) zero s h = (x, (refl, let e : s ≡ summary x = cc in e))
told-entry (x ∷ es) (suc at) s h = told-entry es at s h

pub told_at : (es : List Entry) (at : ℕ) (s : Summary) → Ok s ≡ tells es at → at < length es
told_at es at s h = let t = told-entry es at s h in nth-within es at t.0 t.1.0

no_fault : (f : Option RoomFault) → Ok tt ≡ unless_fault f → f ≡ None
no_fault None h = refl
no_fault (Some f) h = let z : ◌≡◌ {A = ℕ} 0 1 = cc in absurd (omega arith)

some-fault : (f : Option RoomFault) (n : Notice) → Err n ≡ unless_fault f → (x : RoomFault) × ((f ≡ Some x) × (n ≡ no_room x))
some-fault None n h = let z : ◌≡◌ {A = ℕ} 0 1 = cc in absurd (omega arith)
some-fault (Some x) n h = (x, (refl, let e : n ≡ no_room x = cc in e))

-- A question for room that is not refused: the mailbox is there, and so is room.
pub room_had : (m : ℕ) (f : Option RoomFault) → Ok tt ≡ asks_room m f → (m < 64) × (f ≡ None)
room_had m f h =
    elim (cases_lt m 64) [
      | inl l ↦ (l, no_fault f (h ∙ cond-true (ltb m 64) _ _ (lt-ltb m 64 l)))
      | inr l ↦ let w : ◌≡◌ {A = Result (Unit {0}) Notice} (Ok tt) (Err (plain 7)) = h ∙ cond-false (ltb m 64) _ _ (le-ltb m 64 l) in let z : ◌≡◌ {A = ℕ} 0 1 = cc in absurd (omega arith)
    ]

-- What an answer to staging says, where the mailbox and the lot are there.
module _ (m : ℕ) (l : Option (List Entry)) (f : Option RoomFault) (es : List Entry) (there : m < 64) (begun : l ≡ Some es) where
  stages_by : stages m l f ≡ unless_fault f
  stages_by = cond-true (ltb m 64) (stages_into l f) (Err (plain 7)) (lt-ltb _ _ there) ∙ ap (λ v. stages_into v f) begun

  pub staged_room : Ok tt ≡ stages m l f → f ≡ None
  staged_room h = no_fault f (h ∙ stages_by)

  pub staged-fault : (n : Notice) → Err n ≡ stages m l f → (x : RoomFault) × ((f ≡ Some x) × (n ≡ no_room x))
  staged-fault n h = some-fault f n (h ∙ stages_by)
