-- Laws of what keeps within limits.
use Rattle.std.proofs.Common.{◌≡◌, ℕ, ◌+◌, ◌≤◌, true, eqb, List, ◌++◌, length, is_some, Some, None, Ok, sum_by, Option, sym, refl, ap, ◌∙◌, subst, inl, inr, arith}
use Rattle.std.specs.Coded.{le_prop}
use Rattle.std.specs.List.{slice_get}
use Rattle.std.specs.Option.{option_map}
use Rattle.std.proofs.lemmas.List.Sums.{sum_by-append, sum_by_push}
use Rattle.std.proofs.lemmas.Bool.{cases_eq, cond-false, cond-true, eq-eqb, ne_eqb}
use Rattle.spool.specs.Entries.{Entry}
use Rattle.spool.specs.Rules.{asks_room, extended, opened, remains, staged}
use Rattle.spool.proofs.Places.{nth-within}
use Rattle.spool.proofs.Told.{extended_done, remains_done, room_had}
use Rattle.quota.specs.Quotas.{Kept, allows, lifted}
use Rattle.quota.specs.Shares.{both, share}
use Rattle.quota.specs.declared.layer.Quota.{Quota}
use Rattle.quota.specs.declared.limits.Limits.{Limits}
use Rattle.quota.proofs.Counts.{staged-opened, sum_removed, sum-remains}
use Rattle.quota.proofs.Rooms.{Room, few-octets, none_room}

-- What an entry counts for its own mailbox.
share_self : (w : Entry → ℕ) (e : Entry) → share w e.mailbox e ≡ w e
share_self w e = cond-true (eqb e.mailbox e.mailbox) (w e) 0 (eq-eqb e.mailbox e.mailbox refl)

-- An entry that its mailbox has room for leaves every mailbox within a limit.
one_more : (w : Entry → ℕ) (most m : ℕ) (es : List Entry) (e : Entry) → sum_by (share w e.mailbox) es + w e ≤ most → sum_by (share w m) es ≤ most → sum_by (share w m) es + share w m e ≤ most
one_more w most m es e a b =
    elim (cases_eq e.mailbox m) [
      | inl i ↦ subst (λ (v : ℕ). sum_by (share w v) es + share w v e ≤ most) i (omega (arith, share_self w e))
      | inr n ↦ omega (arith, cond-false (eqb e.mailbox m) (w e) 0 (ne_eqb _ _ n))
    ]

lot_staged : (l : Option (List Entry)) → true ≡ is_some l → l ≡ Some (staged l)
lot_staged None h = let z : ◌≡◌ {A = ℕ} 0 1 = cc in absurd (omega arith)
lot_staged (Some es) h = refl

Kept-prop : (q : Limits) (es : List Entry) → IsProp (Kept q es)
Kept-prop q es = hlevel le_prop

-- A layer, and what the spool below is after a call.
module _ {S : Type 0} {s : _} (q : Quota S s) (b : S) where
  abbrev had : List Entry
  had = both (s.held q.below) (s.lot q.below)

  abbrev has : List Entry
  has = both (s.held b) (s.lot b)

  sums : (f : Entry → ℕ) → (sum_by f had ≡ sum_by f (s.held q.below) + sum_by f (staged (s.lot q.below))) × (sum_by f has ≡ sum_by f (s.held b) + sum_by f (staged (s.lot b)))
  sums f = (sum_by-append f (s.held q.below) (staged (s.lot q.below)), sum_by-append f (s.held b) (staged (s.lot b)))

  -- The calls that add no entry keep within the limits.
  fewer : ((f : Entry → ℕ) → sum_by f has ≤ sum_by f had) → Kept q.limits has
  fewer d m = (omega (arith, d (share (λ e. 1) m), (q.kept m).0), omega (arith, d (share (λ e. length e.payload) m), (q.kept m).1))

  pub kept-opened : s.held b ≡ s.held q.below → s.lot b ≡ opened (s.lot q.below) → Kept q.limits has
  kept-opened h l = fewer (λ f. omega (arith, sums f, ap (sum_by f) h, ap (λ v. sum_by f (staged v)) l, ap (sum_by f) (staged-opened (s.lot q.below))))

  pub kept_committed : s.held b ≡ s.held q.below ++ staged (s.lot q.below) → s.lot b ≡ None → Kept q.limits has
  kept_committed h l = fewer (λ f. omega (arith, sums f, ap (sum_by f) h, ap (λ v. sum_by f (staged v)) l))

  pub kept_withdrawn : s.held b ≡ s.held q.below → s.lot b ≡ None → Kept q.limits has
  kept_withdrawn h l = fewer (λ f. omega (arith, sums f, ap (sum_by f) h, ap (λ v. sum_by f (staged v)) l))

  pub kept_removed : (at : ℕ) → s.held b ≡ remains (s.lot q.below) (s.held q.below) at → s.lot b ≡ s.lot q.below → Kept q.limits has
  kept_removed at h l = fewer (λ f. omega (arith, sums f, ap (sum_by f) h, sum-remains f (s.lot q.below) (s.held q.below) at, ap (λ v. sum_by f (staged v)) l))

  -- After a removal there is room for what was taken out.
  pub room_again : (at : ℕ) (e : Entry) → s.held b ≡ remains (s.lot q.below) (s.held q.below) at → s.lot b ≡ s.lot q.below → s.lot q.below ≡ None → slice_get (s.held q.below) at ≡ Some e →
      s.room b e.mailbox (length e.payload) ≡ None → allows q.limits has e.mailbox (length e.payload) (s.room b e.mailbox (length e.payload)) ≡ None
  room_again at e h l o i n =
      let k = h ∙ sym (remains_done (s.lot q.below) (s.held q.below) at o (nth-within (s.held q.below) at e i)) in
      let left : (f : Entry → ℕ) → sum_by f has + f e ≡ sum_by f had = λ f. omega (arith, sums f, ap (sum_by f) k, sum_removed f (s.held q.below) at e i, ap (λ v. sum_by f (staged v)) l) in
      let most = q.kept e.mailbox in
      few-octets q.limits has e.mailbox (length e.payload) (s.room b e.mailbox (length e.payload))
      (omega (arith, left (share (λ e. 1) e.mailbox), share_self (λ e. 1) e))
      (omega (arith, left (share (λ e. length e.payload) e.mailbox), share_self (λ e. length e.payload) e))
      ∙ ap (option_map lifted) n

  -- An entry that the limits let through is staged below: there is room there too.
  pub kept_staged : (e : Entry) → true ≡ is_some (s.lot q.below) → Ok tt ≡ asks_room e.mailbox (allows q.limits had e.mailbox (length e.payload) (s.room q.below e.mailbox (length e.payload))) →
      s.held b ≡ s.held q.below → s.lot b ≡ extended (s.lot q.below) (s.room q.below e.mailbox (length e.payload)) e → Kept q.limits has
  kept_staged e o free h l m =
      let had-room = room_had e.mailbox (allows q.limits had e.mailbox (length e.payload) (s.room q.below e.mailbox (length e.payload))) free in
      let in' : Room q.limits had e.mailbox (length e.payload) (s.room q.below e.mailbox (length e.payload)) = none_room q.limits had e.mailbox (length e.payload) _ had-room.1 in
      let g = l ∙ sym (extended_done e (s.lot q.below) _ (staged (s.lot q.below)) had-room.0 (lot_staged (s.lot q.below) o) in'.below) in
      let grown : (f : Entry → ℕ) → sum_by f has ≡ sum_by f had + f e = λ f. omega (arith, sums f, ap (sum_by f) h, ap (λ v. sum_by f (staged v)) g, sum_by_push f (staged (s.lot q.below)) e) in (
        omega (arith, grown (share (λ e. 1) m), one_more (λ e. 1) q.limits.entries m had e in'.entries (q.kept m).0),
        omega (arith, grown (share (λ e. length e.payload) m), one_more (λ e. length e.payload) q.limits.octets m had e in'.octets (q.kept m).1),
      )

-- A layer is what it was where the spool below is.
module _ {S : Type 0} {s : _} (q : Quota S s) where
  abbrev around : (k : Kept q.limits (both (s.held q.below) (s.lot q.below))) → Quota S s
  around k = record { below = q.below; limits = q.limits; kept = k }

  pub same_layer : (b : S) (k : Kept q.limits (both (s.held b) (s.lot b))) → b ≡ q.below → ◌≡◌ {A = Quota S s} (record { below = b; limits = q.limits; kept = k }) q
  same_layer b k e =
      subst (λ (b : S). (k : Kept q.limits (both (s.held b) (s.lot b))) → ◌≡◌ {A = Quota S s} (record { below = b; limits = q.limits; kept = k }) q) (sym e)
      (λ k. ap around (Kept-prop q.limits (both (s.held q.below) (s.lot q.below)) k q.kept)) k
