-- How a refusal for want of room is a fault, and a fault an answer.
use Rattle.std.proofs.Common.{◌≡◌, ℕ, zero, suc, ◌<◌, ◌≤◌, false, leb, List, [], length, is_some, is_ok, true, Some, None, Ok, Err, Option, Result, sym, refl, ap, subst, ◌∙◌, arith}
use Rattle.std.proofs.Math.Nat.{ℕ_set}
use Rattle.std.proofs.lemmas.Bool.{true≢false, cond-true, le-leb}
use Rattle.std.specs.Result.{IsErrAnd, MatchResult}
use Rattle.std.proofs.lemmas.Result.{err_from_is_err_and}
use Rattle.refusals.specs.Refusals.{Notice, no_room, notice, told}
use Rattle.refusals.specs.declared.refusal.Refusal.{Refusal}
use Rattle.refusals.specs.Causes.{cause_number}
use Rattle.refusals.specs.declared.refusal.Cause.{Cause}
use Rattle.refusals.specs.declared.refusal.Cause.TheVariants.{LongPayload, NoSlot, NoOctets, NoRow, EntryLimit, OctetLimit, Other}
use Rattle.refusals.specs.declared.refusal.RoomFault.{RoomFault}
use Rattle.spool.specs.Entries.{Entry}
use Rattle.spool.specs.Meanings.{Meaning}
use Rattle.spool.specs.Rules.{extended, opens, staged, stages}
use Rattle.spool.proofs.Told.{extended_done, staged-fault, staged_room}
use Rattle.filing.specs.Lots.{Declined, nowhere, busy, full, Turned, Files}
use Rattle.protocol.specs.declared.reply.Reply.{Reply}
use Rattle.ends.specs.declared.faults.EndFault.{EndFault}
use Rattle.ends.specs.declared.faults.EndFault.TheVariants.{Room, Ledger}
use Rattle.ends.specs.Ends.{starts}
use Rattle.ends.specs.Faults.{reply_of}
use Rattle.ends.specs.Filing.{kept, Answered, answered_turned, answered-ledger}
use Rattle.ends.specs.Steps.{Alone, OneLot, Tried}

-- A cause of another make of spool is its number.
unnamed-prop : (n : ℕ) → IsProp (n ≤ 6 → n ≡ 0)
unnamed-prop n = hlevel ℕ_set

abbrev other : (n : ℕ) → (n ≤ 6 → n ≡ 0) → Cause
other n u = Other (record { number = n; unnamed = u })

-- A cause is known by its number.
abbrev numbered : ℕ → Cause
numbered zero = other 0 (λ _. refl)
numbered (suc zero) = LongPayload
numbered (suc (suc zero)) = NoSlot
numbered (suc (suc (suc zero))) = NoOctets
numbered (suc (suc (suc (suc zero)))) = NoRow
numbered (suc (suc (suc (suc (suc zero))))) = EntryLimit
numbered (suc (suc (suc (suc (suc (suc zero)))))) = OctetLimit
numbered (suc (suc (suc (suc (suc (suc (suc n))))))) = other (suc (suc (suc (suc (suc (suc (suc n))))))) (λ h. absurd (omega arith))

other_is : (n : ℕ) (u : n ≤ 6 → n ≡ 0) → numbered n ≡ other n u
other_is zero u = ap (other 0) (unnamed-prop 0 _ u)
other_is (suc zero) u = absurd (omega (arith, u (omega arith)))
other_is (suc (suc zero)) u = absurd (omega (arith, u (omega arith)))
other_is (suc (suc (suc zero))) u = absurd (omega (arith, u (omega arith)))
other_is (suc (suc (suc (suc zero)))) u = absurd (omega (arith, u (omega arith)))
other_is (suc (suc (suc (suc (suc zero))))) u = absurd (omega (arith, u (omega arith)))
other_is (suc (suc (suc (suc (suc (suc zero)))))) u = absurd (omega (arith, u (omega arith)))
other_is (suc (suc (suc (suc (suc (suc (suc n))))))) u = ap (other (suc (suc (suc (suc (suc (suc (suc n)))))))) (unnamed-prop _ _ u)

cause_is : (c : Cause) → numbered (cause_number c) ≡ c
cause_is LongPayload = refl
cause_is NoSlot = refl
cause_is NoOctets = refl
cause_is NoRow = refl
cause_is EntryLimit = refl
cause_is OctetLimit = refl
cause_is (Other o) = other_is o.number o.unnamed

pub same-fault : (f g : RoomFault) → no_room f ≡ no_room g → f ≡ g
same-fault f g e =
    let v = ap (λ (n : Notice). n.values) e in
    let a : f.layer ≡ g.layer = cc in
    let n : cause_number f.cause ≡ cause_number g.cause = cc in
    let b : f.cause ≡ g.cause = sym (cause_is f.cause) ∙ ap numbered n ∙ cause_is g.cause in
    ap (λ (x : ℕ). record { layer = x; cause = f.cause }) a ∙ ap (λ (x : Cause). record { layer = g.layer; cause = x }) b

pub none_open : (l : Option (List Entry)) → false ≡ is_some l → l ≡ None
none_open None e = refl
none_open (Some es) e = absurd (true≢false (sym e))

some_staged : (l : Option (List Entry)) → is_some l ≡ true → l ≡ Some (staged l)
some_staged None h = absurd (true≢false (sym h))
some_staged (Some es) h = refl

-- An end that starts.
pub starts_idle : (n : ℕ) (l : Option (List Entry)) → n ≤ 100 → l ≡ None → Ok tt ≡ starts n l
starts_idle n l h i = sym (cond-true (leb n 100) _ _ (le-leb n 100 h) ∙ ap opens i)

-- A fault is not answered 250.
pub kept-fault : (e : Entry) (f : EndFault) (b : Reply) → b ≡ reply_of f → [] ≡ kept e b
kept-fault e (Room f) b q = ap (kept e) (sym q)
kept-fault e Ledger b q = ap (kept e) (sym q)

module _ {S : Type 0} (sp : Meaning S) where
  -- An entry for a mailbox that there is, while no lot is open, is declined for want of room alone.
  pub declined : (s s' : S) (e : Entry) (n : Notice) → e.mailbox < 64 → sp.lot s ≡ None → Declined sp s s' e n → (f : RoomFault) × ((n ≡ no_room f) × Turned sp s s' e f)
  declined s s' e n m i (nowhere a q) = absurd (omega arith)
  declined s s' e n m i (busy a o q) = absurd (true≢false (sym o ∙ ap is_some i))
  declined s s' e n m i (full a f t) = (f, (refl, t))

  -- A refusal to file is handed on as the fault that it carries.
  pub one_lot : (s s' : S) (e : Entry) (r : Result (Unit {0}) Refusal) (q : Result (Unit {0}) RoomFault) (P : Refusal → RoomFault → Type 0) → e.mailbox < 64 → sp.lot s ≡ None → Files sp s s' e r →
      MatchResult r (λ x. q ≡ Ok x) (λ x. IsErrAnd q (P x)) → ((x : Refusal) (f : RoomFault) → P x f → notice x ≡ no_room f) → OneLot sp s s' e q
  one_lot s s' e (Ok u) q P m i files cases says = subst (OneLot sp s s' e) (sym cases) files.1
  one_lot s s' e (Err x) q P m i files cases says =
      let d = declined s s' e (notice x) m i files in
      let k = err_from_is_err_and q cases in
      let f : d.0 ≡ k.0 = same-fault d.0 k.0 (sym d.1.0 ∙ says x k.0 k.2) in
      subst (OneLot sp s s' e) (sym k.1) (subst (Turned sp s s' e) f d.1.1)

  -- A refusal to stage, while a lot is open, is handed on likewise.
  pub one_try : (s s' : S) (e : Entry) (r : Result (Unit {0}) Refusal) (q : Result (Unit {0}) RoomFault) (P : Refusal → RoomFault → Type 0) → e.mailbox < 64 → is_some (sp.lot s) ≡ true → (is_ok r ≡ false → s' ≡ s) →
      told r ≡ stages e.mailbox (sp.lot s) (sp.room s e.mailbox (length e.payload)) → sp.held s' ≡ sp.held s → sp.lot s' ≡ extended (sp.lot s) (sp.room s e.mailbox (length e.payload)) e →
      MatchResult r (λ x. q ≡ Ok x) (λ x. IsErrAnd q (P x)) → ((x : Refusal) (f : RoomFault) → P x f → notice x ≡ no_room f) → Tried sp s s' e q
  one_try s s' e (Ok u) q P m o stays tells holds grows cases says =
      let l = some_staged (sp.lot s) o in
      let free = staged_room e.mailbox (sp.lot s) _ (staged (sp.lot s)) m l tells in
      subst (Tried sp s s' e) (sym cases) (record { fits = free; grows = grows ∙ sym (extended_done e (sp.lot s) _ (staged (sp.lot s)) m l free); keeps = holds })
  one_try s s' e (Err x) q P m o stays tells holds grows cases says =
      let d = staged-fault e.mailbox (sp.lot s) _ (staged (sp.lot s)) m (some_staged (sp.lot s) o) (notice x) tells in
      let k = err_from_is_err_and q cases in
      let f : d.0 ≡ k.0 = same-fault d.0 k.0 (sym d.1.1 ∙ says x k.0 k.2) in
      subst (Tried sp s s' e) (sym k.1) (d.1.0 ∙ ap Some f, stays refl)

module _ {S : Type 0} (sp : Meaning S) (counts : ℕ → ℕ) where
  pub answered-fault : (s s' : S) (e : Entry) (f : EndFault) (b : Reply) → b ≡ reply_of f → Alone sp counts s s' e (Err f) → Answered sp counts s e b s'
  answered-fault s s' e (Room f) b q h = answered_turned f q h.0 h.1
  answered-fault s s' e Ledger b q h = answered-ledger q h.0 h.1
