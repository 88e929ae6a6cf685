-- Laws of payloads that lie without gaps.
use Rattle.std.specs.Prelude.{◌≡◌, ℕ, zero, suc, ◌+◌, ◌-◌, ◌≤◌, List, [], ◌∷◌, ◌++◌, map, length, take, drop, Some, refl}
use Rattle.std.proofs.Common.{sym, ap, ◌∙◌, subst, add_assoc, zero-add, add-zero, arith}
use Rattle.std.specs.List.{slice_get, remove}
use Rattle.std.proofs.lemmas.List.{length-take-le, length-drop, take-take, take_all, take-append-le, drop-append-le, drop-drop, drop-take, take-append-drop, nil_from_length}
use Rattle.spool.specs.Entries.{Entry}
use Rattle.packed.specs.Packing.{total, cut, offsets, starts, lowered}
use Rattle.packed.specs.declared.row.LogRow.{LogRow}
use Rattle.spool.proofs.Places.{none_some, same_some, nth-within, split_at, removed_at}

-- The entry of a row whose payload starts at some place.
abbrev pub entry_at : List ℕ → ℕ → LogRow → Entry
entry_at bs from r = record { mailbox = r.mailbox; payload = take r.length (drop from bs) }

pub length_cut : (bs : List ℕ) (rs : List LogRow) → length (cut bs rs) ≡ length rs
length_cut bs [] = refl
length_cut bs (r ∷ rs) = ap suc (length_cut (drop r.length bs) rs)

pub take-cut : (n : ℕ) (bs : List ℕ) (rs : List LogRow) → take n (cut bs rs) ≡ cut bs (take n rs)
take-cut zero bs rs = refl
take-cut (suc n) bs [] = refl
take-cut (suc n) bs (r ∷ rs) = ap (λ v. entry_at bs 0 r ∷ v) (take-cut n (drop r.length bs) rs)

pub total-append : (rs ss : List LogRow) → total (rs ++ ss) ≡ total rs + total ss
total-append [] ss = sym (zero-add (total ss))
total-append (r ∷ rs) ss = omega (arith, total-append rs ss)

pub total-take : (n : ℕ) (rs : List LogRow) → total (take n rs) ≤ total rs
total-take n rs = omega (arith, total-append (take n rs) (drop n rs), ap total (take-append-drop n rs))

-- Octets past the last payload do not matter.
pub cut_front : (n : ℕ) (bs : List ℕ) (rs : List LogRow) → total rs ≤ n → cut (take n bs) rs ≡ cut bs rs
cut_front n bs [] h = refl
cut_front n bs (r ∷ rs) h =
    let a : take r.length (take n bs) ≡ take r.length bs = take-take r.length n bs (omega arith) in
    let b : drop r.length (take n bs) ≡ take (n - r.length) (drop r.length bs)
    = ap (λ k. drop r.length (take k bs)) (omega arith) ∙ drop-take r.length (n - r.length) bs in
    ap (λ v. record { mailbox = r.mailbox; payload = v } ∷ cut (drop r.length (take n bs)) rs) a
    ∙ ap (λ v. entry_at bs 0 r ∷ cut v rs) b
    ∙ ap (λ v. entry_at bs 0 r ∷ v) (cut_front (n - r.length) (drop r.length bs) rs (omega arith))

pub cut-append : (xs ys : List ℕ) (rs ss : List LogRow) → length xs ≡ total rs → cut (xs ++ ys) (rs ++ ss) ≡ cut xs rs ++ cut ys ss
cut-append xs ys [] ss h = ap (λ v. cut (v ++ ys) ss) (nil_from_length xs h)
cut-append xs ys (r ∷ rs) ss h =
    let a : take r.length (xs ++ ys) ≡ take r.length xs = take-append-le r.length xs ys (omega arith) in
    let b : drop r.length (xs ++ ys) ≡ drop r.length xs ++ ys = drop-append-le r.length xs ys (omega arith) in
    let n : length (drop r.length xs) ≡ total rs = simp length-drop (omega arith) in
    ap (λ v. record { mailbox = r.mailbox; payload = v } ∷ cut (drop r.length (xs ++ ys)) (rs ++ ss)) a
    ∙ ap (λ v. entry_at xs 0 r ∷ cut v (rs ++ ss)) b
    ∙ ap (λ v. entry_at xs 0 r ∷ v) (cut-append (drop r.length xs) ys rs ss n)

-- The entries of rows without gaps, and the row at a place.
pub cut_rows : (from : ℕ) (bs : List ℕ) (rs : List LogRow) → offsets rs ≡ starts from rs → cut (drop from bs) rs ≡ map (λ r. entry_at bs r.offset r) rs
cut_rows from bs [] e = refl
cut_rows from bs (r ∷ rs) e =
    let a : r.offset ≡ from = cc in
    let t : offsets rs ≡ starts (from + r.length) rs = cc in
    ap (λ v. entry_at bs v r ∷ cut (drop r.length (drop from bs)) rs) (sym a)
    ∙ ap (λ v. entry_at bs r.offset r ∷ v) (ap (λ v. cut v rs) (drop-drop r.length from bs) ∙ cut_rows (from + r.length) bs rs t)

pub cut-nth : (bs : List ℕ) (rs : List LogRow) (at : ℕ) (r : LogRow) → slice_get rs at ≡ Some r → slice_get (cut bs rs) at ≡ Some (entry_at bs (total (take at rs)) r)
cut-nth bs [] at r h = none_some r _ h
cut-nth bs (x ∷ rs) zero r h = ap (λ v. Some (entry_at bs 0 v)) (same_some x r h)
cut-nth bs (x ∷ rs) (suc at) r h =
    cut-nth (drop x.length bs) rs at r h
    ∙ ap (λ v. Some (record { mailbox = r.mailbox; payload = take r.length v })) (drop-drop (total (take at rs)) x.length bs)

pub offset_nth : (from : ℕ) (rs : List LogRow) (at : ℕ) (r : LogRow) → offsets rs ≡ starts from rs → slice_get rs at ≡ Some r → r.offset ≡ from + total (take at rs)
offset_nth from [] at r e h = none_some r _ h
offset_nth from (x ∷ rs) zero r e h = let a : r.offset ≡ from = ap (λ v. v.offset) (sym (same_some x r h)) ∙ cc in omega arith
offset_nth from (x ∷ rs) (suc at) r e h =
    let t : offsets rs ≡ starts (from + x.length) rs = cc in
    omega (arith, offset_nth (from + x.length) rs at r t h)

pub total-nth : (rs : List LogRow) (at : ℕ) (r : LogRow) → slice_get rs at ≡ Some r → total (take at rs) + (r.length + total (drop (suc at) rs)) ≡ total rs
total-nth rs at r h = sym (ap total (split_at rs at r h) ∙ total-append (take at rs) (r ∷ drop (suc at) rs))

-- Offsets.
pub offsets-append : (rs ss : List LogRow) → offsets (rs ++ ss) ≡ offsets rs ++ offsets ss
offsets-append [] ss = refl
offsets-append (r ∷ rs) ss = ap (λ v. r.offset ∷ v) (offsets-append rs ss)

pub starts-append : (from : ℕ) (rs ss : List LogRow) → starts from (rs ++ ss) ≡ starts from rs ++ starts (from + total rs) ss
starts-append from [] ss = ap (λ n. starts n ss) (sym (add-zero from))
starts-append from (r ∷ rs) ss =
    ap (λ v. from ∷ v) (starts-append (from + r.length) rs ss ∙ ap (λ n. starts (from + r.length) rs ++ starts n ss) (add_assoc from r.length (total rs)))

-- Rows without gaps fall apart into rows without gaps, and the other way round.
pub gapless_front : (from : ℕ) (rs ss : List LogRow) → offsets (rs ++ ss) ≡ starts from (rs ++ ss) → offsets rs ≡ starts from rs
gapless_front from [] ss e = refl
gapless_front from (r ∷ rs) ss e =
    let a : r.offset ≡ from = cc in
    let t : offsets (rs ++ ss) ≡ starts (from + r.length) (rs ++ ss) = cc in
    ap (λ v. v ∷ offsets rs) a ∙ ap (λ v. from ∷ v) (gapless_front (from + r.length) rs ss t)

pub gapless_back : (from : ℕ) (rs ss : List LogRow) → offsets (rs ++ ss) ≡ starts from (rs ++ ss) → offsets ss ≡ starts (from + total rs) ss
gapless_back from [] ss e = e ∙ ap (λ n. starts n ss) (sym (add-zero from))
gapless_back from (r ∷ rs) ss e =
    let t : offsets (rs ++ ss) ≡ starts (from + r.length) (rs ++ ss) = cc in
    gapless_back (from + r.length) rs ss t ∙ ap (λ n. starts n ss) (add_assoc from r.length (total rs))

pub gapless-append : (from : ℕ) (rs ss : List LogRow) → offsets rs ≡ starts from rs → offsets ss ≡ starts (from + total rs) ss → offsets (rs ++ ss) ≡ starts from (rs ++ ss)
gapless-append from rs ss e f = offsets-append rs ss ∙ ap (λ v. v ++ offsets ss) e ∙ ap (λ v. starts from rs ++ v) f ∙ sym (starts-append from rs ss)

pub gapless-take : (n : ℕ) (rs : List LogRow) → offsets rs ≡ starts 0 rs → offsets (take n rs) ≡ starts 0 (take n rs)
gapless-take n rs e =
    let P : List LogRow → Type 0 = λ v. offsets v ≡ starts 0 v in
    gapless_front 0 (take n rs) (drop n rs) (subst P (sym (take-append-drop n rs)) e)

-- Rows whose payloads moved down cut as before.
pub cut-lowered : (by : ℕ) (bs : List ℕ) (rs : List LogRow) → cut bs (map (lowered by) rs) ≡ cut bs rs
cut-lowered by bs [] = refl
cut-lowered by bs (r ∷ rs) = ap (λ v. entry_at bs 0 r ∷ v) (cut-lowered by (drop r.length bs) rs)

pub total_lowered : (by : ℕ) (rs : List LogRow) → total (map (lowered by) rs) ≡ total rs
total_lowered by [] = refl
total_lowered by (r ∷ rs) = ap (λ v. r.length + v) (total_lowered by rs)

pub gapless-lowered : (by from : ℕ) (rs : List LogRow) → offsets rs ≡ starts (from + by) rs → offsets (map (lowered by) rs) ≡ starts from (map (lowered by) rs)
gapless-lowered by from [] e = refl
gapless-lowered by from (r ∷ rs) e =
    let o : r.offset ≡ from + by = cc in
    let t : offsets rs ≡ starts (from + by + r.length) rs = cc in
    let q : from + by + r.length ≡ from + r.length + by = omega arith in
    let u : r.offset - by ≡ from = omega arith in
    ap (λ v. v ∷ offsets (map (lowered by) rs)) u ∙ ap (λ v. from ∷ v) (gapless-lowered by (from + r.length) rs (t ∙ ap (λ k. starts k rs) q))

-- Rows without gaps that fill the first octets of a memory.
pub record Packed (bs : List ℕ) (rs : List LogRow) (used : ℕ) : Type 0 where
  pub gapless : offsets rs ≡ starts 0 rs
  pub sum : total rs ≡ used
  pub fits : used ≤ length bs

-- One more payload behind the others.
pub record Grown (bs bs' : List ℕ) (rs : List LogRow) (r : LogRow) (p : List ℕ) (used : ℕ) : Type 0 where
  pub gapless : offsets (rs ++ r ∷ []) ≡ starts 0 (rs ++ r ∷ [])
  pub sum : total (rs ++ r ∷ []) ≡ used + length p
  pub cuts : cut bs' (rs ++ r ∷ []) ≡ cut bs rs ++ record { mailbox = r.mailbox; payload = p } ∷ []

pub grows : (bs bs' : List ℕ) (rs : List LogRow) (r : LogRow) (p : List ℕ) (used : ℕ) → Packed bs rs used →
    r.offset ≡ used → r.length ≡ length p → take (used + length p) bs' ≡ take used bs ++ p → Grown bs bs' rs r p used
grows bs bs' rs r p used k o l e =
    let s : total (rs ++ r ∷ []) ≡ used + length p = omega (arith, total-append rs (r ∷ []), k.sum, l) in
    record {
      gapless = gapless-append 0 rs (r ∷ []) k.gapless (ap (λ v. v ∷ []) (o ∙ sym (zero-add (total rs) ∙ k.sum)));
      sum = s;
      cuts = sym (cut_front (used + length p) bs' (rs ++ r ∷ []) (omega (arith, s)))
          ∙ ap (λ v. cut v (rs ++ r ∷ [])) e
          ∙ cut-append (take used bs) p rs (r ∷ []) (length-take-le used bs k.fits ∙ sym k.sum)
          ∙ ap (λ v. v ++ cut p (r ∷ [])) (cut_front used bs rs (omega (arith, k.sum)))
          ∙ ap (λ v. cut bs rs ++ record { mailbox = r.mailbox; payload = v } ∷ []) (take_all r.length p (omega arith));
    }

-- One payload taken out: the rows before it stay, and those behind it are lowered by its length.
abbrev pub left : List LogRow → ℕ → LogRow → List LogRow
left rs at r = take at rs ++ map (lowered r.length) (drop (suc at) rs)

pub record Shrunk (bs bs' : List ℕ) (rs : List LogRow) (at : ℕ) (r : LogRow) (used : ℕ) : Type 0 where
  pub gapless : offsets (left rs at r) ≡ starts 0 (left rs at r)
  pub sum : total (left rs at r) ≡ used - r.length
  pub cuts : cut bs' (left rs at r) ≡ remove (cut bs rs) at

pub shrinks : (bs bs' : List ℕ) (rs : List LogRow) (at : ℕ) (r : LogRow) (used : ℕ) → Packed bs rs used → slice_get rs at ≡ Some r →
    take (used - r.length) bs' ≡ take r.offset bs ++ drop (r.offset + r.length) (take used bs) → Shrunk bs bs' rs at r used
shrinks bs bs' rs at r used k n e =
    let A : List LogRow = take at rs in
    let B : List LogRow = drop (suc at) rs in
    let L : ℕ = r.length in
    let o : r.offset ≡ total A = offset_nth 0 rs at r k.gapless n ∙ zero-add (total A) in
    let t : total A + (L + total B) ≡ used = total-nth rs at r n ∙ k.sum in
    let la : length A ≡ at = length-take-le at rs (omega (arith, nth-within rs at r n)) in
    let P : List LogRow → Type 0 = λ v. offsets v ≡ starts 0 v in
    let g : offsets (A ++ r ∷ B) ≡ starts 0 (A ++ r ∷ B) = subst P (split_at rs at r n) k.gapless in
    let gr : offsets (r ∷ B) ≡ starts (0 + total A) (r ∷ B) = gapless_back 0 A (r ∷ B) g in
    let gb : offsets B ≡ starts (0 + total A + L) B = cc in
    let s : total (left rs at r) ≡ used - L = omega (arith, total-append A (map (lowered L) B), total_lowered L B, t) in
    let xs : List ℕ = take r.offset bs in
    let D : List ℕ = drop r.offset (take used bs) in
    let lx : length xs ≡ total A = length-take-le r.offset bs (omega (arith, o, t, k.fits)) ∙ o in
    let after : cut bs' (left rs at r) ≡ cut xs A ++ cut (drop (r.offset + L) (take used bs)) B =
    sym (cut_front (used - L) bs' (left rs at r) (omega (arith, s)))
    ∙ ap (λ v. cut v (left rs at r)) e
    ∙ cut-append xs (drop (r.offset + L) (take used bs)) A (map (lowered L) B) lx
    ∙ ap (λ v. cut xs A ++ v) (cut-lowered L (drop (r.offset + L) (take used bs)) B) in
    let before : cut bs rs ≡ cut xs A ++ entry_at D 0 r ∷ cut (drop (r.offset + L) (take used bs)) B =
    sym (cut_front used bs rs (omega (arith, k.sum)))
    ∙ ap (cut (take used bs)) (split_at rs at r n)
    ∙ ap (λ v. cut v (A ++ r ∷ B)) (sym (take-append-drop r.offset (take used bs)) ∙ ap (λ v. v ++ D) (take-take r.offset used bs (omega (arith, o, t))))
    ∙ cut-append xs D A (r ∷ B) lx
    ∙ ap (λ v. cut xs A ++ entry_at D 0 r ∷ cut v B) (drop-drop L r.offset (take used bs)) in
    record {
      gapless = gapless-append 0 A (map (lowered L) B) (gapless_front 0 A (r ∷ B) g) (gapless-lowered L (0 + total A) B gb);
      sum = s;
      cuts = after ∙ sym (ap (λ v. remove v at) before
          ∙ ap (λ v. remove (cut xs A ++ entry_at D 0 r ∷ cut (drop (r.offset + L) (take used bs)) B) v) (sym (length_cut xs A ∙ la))
          ∙ removed_at (cut xs A) (entry_at D 0 r) (cut (drop (r.offset + L) (take used bs)) B));
    }
