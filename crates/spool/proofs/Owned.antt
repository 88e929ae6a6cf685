-- An ordered list in a Vec: what it holds after an operation that is let through.
use Rattle.std.proofs.Common.{◌≡◌, ℕ, ◌+◌, ◌≤◌, true, leb, List, ◌++◌, length, take, drop, is_ok, Ok, Err, Result, Vec, refl, ap, ◌∙◌, arith}
use Rattle.std.specs.Vec.{with_items}
use Rattle.std.proofs.lemmas.List.{length-take-le, with_items_is}
use Rattle.std.proofs.lemmas.Bool.{cond-true, le-leb}
use Rattle.spool.specs.Lists.{records, appends, appended, removes, remaining}
use Rattle.refusals.specs.Refusals.{told}
use Rattle.spool.specs.declared.list.OrderedList.{OrderedList}
use Rattle.refusals.specs.declared.refusal.Refusal.{Refusal}

-- An answer that tells of success is a success.
pub told_ok : {T : Type 0} (r : Result T Refusal) (x : T) → told r ≡ Ok x → is_ok r ≡ true
told_ok (Ok y) x h = refl
told_ok (Err e) x h = let z : ◌≡◌ {A = ℕ} 0 1 = cc in absurd (omega arith)

-- What a Vec's list is after an operation: its records, its count, and the Vec's length.
pub record Now {X Z : Type 0} (v : Vec X Z) (l l' : OrderedList) (ys rs : List X) : Type 0 where
  pub items : take l'.count (with_items v ys).items ≡ rs
  pub count : l'.count ≡ length rs
  pub long : length (with_items v ys).items ≡ length v.items

module _ {X Z : Type 0} (v : Vec X Z) (l l' : OrderedList) (zs ys : List X) (r : Result (Unit {0}) Refusal) (same : zs ≡ v.items) (len : length ys ≡ v.len) (fit : l.count ≤ length v.items) where
  after : (rs : List X) → take l'.count ys ≡ rs → l'.count ≡ length (take l'.count ys) → Now v l l' ys rs
  after rs e c = record {
    items = ap (take l'.count) (with_items_is v ys len) ∙ e;
    count = c ∙ ap length e;
    long = ap length (with_items_is v ys len) ∙ len ∙ v.ok.0;
  }

  pub extended : (xs : List X) → l.count + length xs ≤ length v.items →
      told r ≡ appends (length zs) (records l zs) xs → records l' ys ≡ appended (length zs) (records l zs) xs →
      (is_ok r ≡ true → l'.count ≡ length (records l' ys)) → Now v l l' ys (take l.count v.items ++ xs)
  extended xs room answer items count =
      let n : length (records l zs) ≡ l.count = ap (λ w. length (take l.count w)) same ∙ length-take-le l.count v.items fit in
      let y : leb (length (records l zs) + length xs) (length zs) ≡ true = le-leb _ _ (omega (arith, n, ap length same)) in
      after (take l.count v.items ++ xs)
      (items ∙ cond-true _ _ _ y ∙ ap (λ w. take l.count w ++ xs) same)
      (count (told_ok r tt (answer ∙ cond-true _ _ _ y)))

  pub shortened : (at by : ℕ) → at + by ≤ l.count →
      told r ≡ removes (records l zs) at by → records l' ys ≡ remaining (records l zs) at by →
      (is_ok r ≡ true → l'.count ≡ length (records l' ys)) → Now v l l' ys (take at (take l.count v.items) ++ drop (at + by) (take l.count v.items))
  shortened at by room answer items count =
      let n : length (records l zs) ≡ l.count = ap (λ w. length (take l.count w)) same ∙ length-take-le l.count v.items fit in
      let y : leb (at + by) (length (records l zs)) ≡ true = le-leb _ _ (omega (arith, n)) in
      after (take at (take l.count v.items) ++ drop (at + by) (take l.count v.items))
      (items ∙ cond-true _ _ _ y ∙ ap (λ w. take at (take l.count w) ++ drop (at + by) (take l.count w)) same)
      (count (told_ok r tt (answer ∙ cond-true _ _ _ y)))
