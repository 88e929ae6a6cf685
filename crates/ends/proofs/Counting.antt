-- How a ledger counts entries.
use Rattle.std.proofs.Common.{◌≡◌, ℕ, ◌+◌, ◌%◌, ◌<◌, ◌≤◌, min, Bool, true, false, cond, eqb, ◌≢◌, ◌⊎◌, List, [], ◌∷◌, ◌++◌, map, length, get_or, take, set, sym, refl, ap, ◌∙◌, inl, inr, arith}
use Rattle.std.proofs.lemmas.List.{map-append, take_more, get_or-set_same, get_or-set_other}
use Rattle.std.proofs.Math.Seq.{map-set_same}
use Rattle.std.proofs.lemmas.Bool.{cases_eq, eq-eqb, ne_eqb, cond-true, cond-false}
use Rattle.spool.specs.Entries.{Entry}
use Rattle.ends.specs.declared.ledger.Ledger.{Ledger}
use Rattle.ends.specs.declared.ledger.Counts.{Counts}
use Rattle.ends.specs.Ledgers.{nothing, counted, counts_of, count, Counted, most_collected, once_more, Collected}
use Rattle.ends.specs.Filing.{entry}

pub count-append : (m : ℕ) (es fs : List Entry) → count m (es ++ fs) ≡ count m es + count m fs
count-append m [] fs = omega arith
count-append m (e ∷ es) fs = omega (arith, count-append m es fs)

bit_most : (b : Bool) → cond b 1 0 ≤ 1
bit_most true = omega arith
bit_most false = omega arith

pub count_most : (m : ℕ) (es : List Entry) → count m es ≤ length es
count_most m [] = omega arith
count_most m (e ∷ es) = omega (arith, count_most m es, bit_most (eqb e.mailbox m))

-- The payload does not matter.
pub count_any : (m : ℕ) (p q rs : List ℕ) → count m (map (entry p) rs) ≡ count m (map (entry q) rs)
count_any m p q [] = refl
count_any m p q (r ∷ rs) = ap (λ n. cond (eqb (r % 64) m) 1 0 + n) (count_any m p q rs)

pub counted_none : (l : Ledger) → Counted l l []
counted_none l = record { filings = λ m h. omega arith; collections = refl }

pub counted_more : (l k j : Ledger) (es fs : List Entry) → Counted l k es → Counted k j fs → Counted l j (es ++ fs)
counted_more l k j es fs a b = record {
  filings = λ m h. omega (arith, a.filings m h, b.filings m h, count-append m es fs);
  collections = b.collections ∙ a.collections;
}

pub counted_any : (l k : Ledger) (p q rs : List ℕ) → Counted l k (map (entry p) rs) → Counted l k (map (entry q) rs)
counted_any l k p q rs c = record { filings = λ m h. c.filings m h ∙ ap (λ (x : ℕ). counts_of l m + x) (count_any m p q rs); collections = c.collections }

-- The counts of one mailbox are set.
module _ (l : Ledger) (i : ℕ) (v : Counts) (there : i < length l.counts) where
  abbrev changed : Ledger
  changed = record { counts = set l.counts i v }

  counted_same : (m : ℕ) → i ≡ m → counted changed m ≡ v
  counted_same m q = ap (counted changed) (sym q) ∙ get_or-set_same l.counts i v nothing there

  counted_other : (m : ℕ) → i ≢ m → counted changed m ≡ counted l m
  counted_other m q = get_or-set_other l.counts i m v nothing (λ x. q (sym x))

-- One entry.
pub counted_one : (l : Ledger) (e : Entry) → e.mailbox < length l.counts →
    Counted l (record { counts = set l.counts e.mailbox (record { filed = counts_of l e.mailbox + 1; collected = (counted l e.mailbox).collected }) }) (e ∷ [])
counted_one l e there = record {
  filings = λ m h. filings m (cases_eq e.mailbox m);
  collections = map-set_same (λ (c : Counts). c.collected) l.counts e.mailbox v nothing refl;
}
  where
    v : Counts
    v = record { filed = counts_of l e.mailbox + 1; collected = (counted l e.mailbox).collected }

    filings : (m : ℕ) → (e.mailbox ≡ m) ⊎ (e.mailbox ≢ m) → (counted (changed l e.mailbox v there) m).filed ≡ counts_of l m + count m (e ∷ [])
    filings m (inl q) =
        let here = ap (λ (c : Counts). c.filed) (counted_same l e.mailbox v there m q) in
        let one : ◌≡◌ {A = ℕ} (cond (eqb e.mailbox m) 1 0) 1 = ap (λ (b : Bool). cond b 1 0) (eq-eqb e.mailbox m q) in
        let same : counts_of l e.mailbox ≡ counts_of l m = ap (counts_of l) q in
        omega (arith, here, one, same)
    filings m (inr q) =
        let here = ap (λ (c : Counts). c.filed) (counted_other l e.mailbox v there m q) in
        let none : ◌≡◌ {A = ℕ} (cond (eqb e.mailbox m) 1 0) 0 = ap (λ (b : Bool). cond b 1 0) (ne_eqb e.mailbox m q) in
        omega (arith, here, none)

-- The entries of one recipient more.
pub entries_more : (p rs : List ℕ) (i : ℕ) → i < length rs → map (entry p) (take (i + 1) rs) ≡ map (entry p) (take i rs) ++ entry p (get_or rs i 0) ∷ []
entries_more p rs i n = ap (map (entry p)) (take_more rs i 0 n) ∙ map-append (entry p) (take i rs) (get_or rs i 0 ∷ [])

-- A collection, mailbox by mailbox.
pub collected_none : (l : Ledger) (m : ℕ) → 64 ≤ m → Collected l l m
collected_none l m h = record {
  filings = refl;
  collections = λ k n. sym (cond-false (eqb k m) _ _ (ne_eqb k m (omega arith)));
}

pub collected_one : (l : Ledger) (m : ℕ) → m < length l.counts → Collected l (record { counts = set l.counts m (once_more (counted l m)) }) m
collected_one l m there = record {
  filings = map-set_same (λ (c : Counts). c.filed) l.counts m v nothing refl;
  collections = λ k n. collections k (cases_eq m k);
}
  where
    v : Counts
    v = once_more (counted l m)

    collections : (k : ℕ) → (m ≡ k) ⊎ (m ≢ k) → (counted (changed l m v there) k).collected ≡ cond (eqb k m) (min ((counted l k).collected + 1) most_collected) (counted l k).collected
    collections k (inl q) =
        ap (λ (c : Counts). c.collected) (counted_same l m v there k q) ∙ ap (λ (x : ℕ). min ((counted l x).collected + 1) most_collected) q
        ∙ sym (cond-true (eqb k m) _ _ (eq-eqb k m (sym q)))
    collections k (inr q) =
        ap (λ (c : Counts). c.collected) (counted_other l m v there k q) ∙ sym (cond-false (eqb k m) _ _ (ne_eqb k m (λ x. q (sym x))))
