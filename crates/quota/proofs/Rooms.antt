-- Laws of the room under limits.
use Rattle.std.proofs.Common.{◌≡◌, ℕ, ◌+◌, ◌<◌, ◌≤◌, ltb, leb, List, Some, None, Ok, Err, Option, Result, sym, refl, ap, ◌∙◌, arith}
use Rattle.std.specs.Option.{option_map}
use Rattle.std.proofs.lemmas.Bool.{cond-true, le-leb, lt-ltb}
use Rattle.std.proofs.lemmas.Bool.Decides.{nat_tests}
use Rattle.spool.specs.Entries.{Entry}
use Rattle.refusals.specs.Refusals.{Notice, notice, told}
use Rattle.refusals.specs.declared.refusal.Refusal.{Refusal}
use Rattle.std.specs.Result.{IsErrAnd, MatchResult}
use Rattle.spool.specs.Rules.{asks_room, unless_fault}
use Rattle.refusals.specs.declared.refusal.RoomFault.{RoomFault}
use Rattle.quota.specs.Quotas.{allows, lifted, raised}
use Rattle.quota.specs.Shares.{entries_of, octets_of}
use Rattle.quota.specs.declared.limits.Limits.{Limits}

-- An answer from below.
abbrev above : Result (Unit {0}) Notice → Result (Unit {0}) Notice
above (Ok x) = Ok x
above (Err n) = Err (raised n)

-- A refusal that is handed up is raised.
pub above_told : (P : Refusal → Refusal → Type 0) → ((e d : Refusal) → P e d → notice d ≡ raised (notice e)) → (r r' : Result (Unit {0}) Refusal) →
    MatchResult r (λ x. r' ≡ Ok x) (λ e. IsErrAnd r' (P e)) → above (told r) ≡ told r'
above_told P k (Ok x) r' h = sym (ap told h)
above_told P k (Err e) (Ok x) h = absurd h
above_told P k (Err e) (Err d) h = sym (ap (λ v. Err v) (k e d h))

above_is : (f : Option RoomFault) → above (unless_fault f) ≡ unless_fault (option_map lifted f)
above_is None = refl
above_is (Some f) = refl

lifted_none : (f : Option RoomFault) → option_map lifted f ≡ None → f ≡ None
lifted_none None h = refl
lifted_none (Some f) h = let z : ◌≡◌ {A = ℕ} 0 1 = cc in absurd (omega arith)

-- There is room: neither limit is reached, and there is room below.
pub record Room (q : Limits) (es : List Entry) (m n : ℕ) (r : Option RoomFault) : Type 0 where
  pub entries : entries_of m es + 1 ≤ q.entries
  pub octets : octets_of m es + n ≤ q.octets
  pub below : r ≡ None

module _ (q : Limits) (es : List Entry) (m n : ℕ) (r : Option RoomFault) where
  pub few-octets : entries_of m es + 1 ≤ q.entries → octets_of m es + n ≤ q.octets → allows q es m n r ≡ option_map lifted r
  few-octets h k =
      cond-true (leb (entries_of m es + 1) q.entries) _ _ (le-leb _ _ h) ∙ cond-true (leb (octets_of m es + n) q.octets) _ _ (le-leb _ _ k)

  pub none_room : allows q es m n r ≡ None → Room q es m n r
  none_room h =
      let a : entries_of m es + 1 ≤ q.entries = grind (arith, nat_tests) in
      let b : octets_of m es + n ≤ q.octets = grind (arith, nat_tests) in
      record { entries = a; octets = b; below = lifted_none r (sym (few-octets a b) ∙ h) }

-- What a question for room answers, of a mailbox that there is.
asks_is : (m : ℕ) (f : Option RoomFault) → m < 64 → asks_room m f ≡ unless_fault f
asks_is m f inside = cond-true (ltb m 64) (unless_fault f) _ (lt-ltb m 64 inside)

-- Where the limits leave room, the answer from below decides.
pub asks_below : (q : Limits) (es : List Entry) (m n : ℕ) (r : Option RoomFault) → m < 64 → entries_of m es + 1 ≤ q.entries → octets_of m es + n ≤ q.octets →
    (answer : Result (Unit {0}) Notice) → answer ≡ asks_room m r → above answer ≡ asks_room m (allows q es m n r)
asks_below q es m n r inside few fits answer e =
    ap above (e ∙ asks_is m r inside) ∙ above_is r ∙ sym (asks_is m (allows q es m n r) inside ∙ ap unless_fault (few-octets q es m n r few fits))
