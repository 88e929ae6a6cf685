-- What staging, withdrawing and removing leave of a log's memory.
use Rattle.std.proofs.Common.{◌≡◌, ℕ, suc, ◌+◌, ◌-◌, ◌<◌, ◌≤◌, List, [], ◌∷◌, ◌++◌, Some, map, length, take, drop, sym, ap, ◌∙◌, subst, add-one, arith}
use Rattle.std.specs.Vec.{with_items}
use Rattle.std.specs.List.{remove, slice_get}
use Rattle.std.proofs.lemmas.List.{drop_at, drop-take, length-append, length-drop, length-map, length-take-le, take-append-le, take-take, with_items_is}
use Rattle.std.proofs.lemmas.List.Edits.{length-remove}
use Rattle.std.proofs.lemmas.Option.{slice_get_within}
use Rattle.std.proofs.lemmas.Slice.{take-put_mid}
use borrow.Rule.Slice.PartMut.{put_mid}
use Rattle.spool.specs.Entries.{Entry}
use Rattle.spool.specs.declared.list.OrderedList.{OrderedList}
use Rattle.spool.proofs.Owned.{Now}
use Rattle.packed.specs.Meaning.{entries_of, rows_of}
use Rattle.packed.specs.Packing.{total, cut, offsets, starts, lowered}
use Rattle.packed.specs.declared.log.PackedLog.{PackedLog}
use Rattle.packed.specs.declared.row.LogRow.{LogRow}
use Rattle.packed.specs.Cuts.{grows, shrinks, left, offset_nth, total-append, total-take}
use Rattle.packed.specs.Logs.{packed, Free, known_at, entries-length, rows-length}
use Rattle.spool.proofs.Places.{nth_drop, take_nth}

-- A memory with so many octets used and so many rows, that keeps what a log's type says of it, and the entries in it.
pub record Keeps (s : PackedLog) (bs : List ℕ) (rows : List LogRow) (used count : ℕ) (es : List Entry) : Type 0 where
  pub octets_same : length bs ≡ length s.octets.items
  pub rows_same : length rows ≡ length s.rows.items
  pub octets_fit : used ≤ length bs
  pub rows_fit : count ≤ length rows
  pub no_gaps : offsets (take count rows) ≡ starts 0 (take count rows)
  pub no_rest : total (take count rows) ≡ used
  pub all : cut bs (take count rows) ≡ es
  pub more : count ≡ length es

-- One more entry behind the others.
pub staging : (s : PackedLog) (m : ℕ) (p ys : List ℕ) (row : LogRow) (zs : List LogRow) (l k : OrderedList) → Free s (length p) →
    row.offset ≡ s.packed.count → row.length ≡ length p → row.mailbox ≡ m →
    Now s.octets s.packed l ys (take s.packed.count s.octets.items ++ p) →
    Now s.rows s.entries k zs (rows_of s ++ row ∷ []) →
    Keeps s (with_items s.octets ys).items (with_items s.rows zs).items l.count k.count (entries_of s ++ record { mailbox = m; payload = p } ∷ [])
staging s m p ys row zs l k f o n b N M =
    let bs = (with_items s.octets ys).items in
    let u : l.count ≡ s.packed.count + length p =
    N.count ∙ length-append (take s.packed.count s.octets.items) p ∙ ap (λ v. v + length p) (length-take-le s.packed.count s.octets.items s.octets_fit) in
    let c : k.count ≡ s.entries.count + 1 =
    M.count ∙ length-append (rows_of s) (row ∷ []) ∙ ap (λ v. v + 1) (rows-length s) in
    let g = grows s.octets.items bs (rows_of s) row p s.packed.count (packed s) o n (ap (λ v. take v bs) (sym u) ∙ N.items) in
    let P : List LogRow → Type 0 = λ v. offsets v ≡ starts 0 v in
    record {
      octets_same = N.long;
      rows_same = M.long;
      octets_fit = omega (arith, u, N.long, f.octets, s.octets_fit);
      rows_fit = omega (arith, c, M.long, f.row);
      no_gaps = subst P (sym M.items) g.gapless;
      no_rest = ap total M.items ∙ g.sum ∙ sym u;
      all = ap (cut bs) M.items ∙ g.cuts ∙ ap (λ v. entries_of s ++ record { mailbox = v; payload = p } ∷ []) b;
      more = c ∙ ap (λ v. v + 1) (sym (entries-length s)) ∙ sym (length-append (entries_of s) (record { mailbox = m; payload = p } ∷ []));
    }

-- A row taken out of the list, once the rows behind it are lowered.
module _ (s : PackedLog) (at : ℕ) (r : LogRow) (there : slice_get (rows_of s) at ≡ Some r) where
  pub within : at < s.entries.count
  within = omega (arith, slice_get_within (rows_of s) at r there, rows-length s)

  behind : take (s.entries.count - (at + 1)) (drop (at + 1) s.rows.items) ≡ drop (at + 1) (rows_of s)
  behind =
      let e : at + 1 + (s.entries.count - (at + 1)) ≡ s.entries.count = omega (arith, within) in
      sym (drop-take (at + 1) (s.entries.count - (at + 1)) s.rows.items) ∙ ap (λ n. drop (at + 1) (take n s.rows.items)) e

  -- The rows behind it start past it, so that they can be lowered.
  pub high_enough : (xs : List LogRow) → xs ≡ s.rows.items → (k : ℕ) (q : LogRow) →
      slice_get (take (s.entries.count - (at + 1)) (drop (at + 1) xs)) k ≡ Some q → r.length ≤ q.offset
  high_enough xs e k q n =
      let R : List LogRow = rows_of s in
      let m : slice_get R (at + 1 + k) ≡ Some q =
      sym (nth_drop (at + 1) R k) ∙ ap (λ v. slice_get v k) (sym (ap (λ v. take (s.entries.count - (at + 1)) (drop (at + 1) v)) e ∙ behind)) ∙ n in
      let t : take (suc at) (take (at + 1 + k) R) ≡ take at R ++ r ∷ [] = take-take (suc at) (at + 1 + k) R (omega arith) ∙ take_nth R at r there in
      omega (arith, offset_nth 0 R (at + 1 + k) q s.no_gaps m, total-take (suc at) (take (at + 1 + k) R), ap total t, total-append (take at R) (r ∷ []))

  -- The memory of the rows once those behind it, up to `end`, are lowered: `ys` stand there in the place of those that `xs` had.
  module _ (xs ys : List LogRow) (end : ℕ) (whole : end ≡ s.entries.count) (lent : xs ≡ s.rows.items)
      (low : ys ≡ map (lowered r.length) (take (end - (at + 1)) (drop (at + 1) xs))) where
    abbrev pub lows : List LogRow
    lows = put_mid (at + 1) (end - (at + 1)) xs ys

    low_is : ys ≡ map (lowered r.length) (drop (at + 1) (rows_of s))
    low_is =
        low ∙ ap (λ n. map (lowered r.length) (take (n - (at + 1)) (drop (at + 1) xs))) whole
        ∙ ap (map (lowered r.length)) (ap (λ v. take (s.entries.count - (at + 1)) (drop (at + 1) v)) lent ∙ behind)

    low_count : length ys ≡ s.entries.count - (at + 1)
    low_count = ap length low_is ∙ length-map (drop (at + 1) (rows_of s)) (lowered r.length) ∙ length-drop (at + 1) (rows_of s) ∙ ap (λ n. n - (at + 1)) (rows-length s)

    lows_back : length lows ≡ s.rows.len
    lows_back =
        omega (
          arith,
          length-append (take (at + 1) xs) (ys ++ drop (end - (at + 1)) (drop (at + 1) xs)),
          length-append ys (drop (end - (at + 1)) (drop (at + 1) xs)),
          length-take-le (at + 1) xs (omega (arith, within, s.rows_fit, ap length lent)),
          length-drop (end - (at + 1)) (drop (at + 1) xs),
          length-drop (at + 1) xs,
          low_count,
          ap length lent,
          within,
          s.rows_fit,
          s.rows.ok.0,
        )

    rows_low : take s.entries.count (with_items s.rows lows).items ≡ take (at + 1) (rows_of s) ++ map (lowered r.length) (drop (at + 1) (rows_of s))
    rows_low =
        ap (take s.entries.count) (with_items_is s.rows lows lows_back)
        ∙ take-put_mid (at + 1) (end - (at + 1)) xs ys s.entries.count (omega (arith, low_count, within)) (omega (arith, within, ap length lent, s.rows_fit))
        ∙ ap (λ v. v ++ ys) (ap (take (at + 1)) lent ∙ sym (take-take (at + 1) s.entries.count s.rows.items (omega (arith, within))))
        ∙ ap (λ v. take (at + 1) (rows_of s) ++ v) low_is

    pub lows_long : length (with_items s.rows lows).items ≡ length s.rows.items
    lows_long = ap length (with_items_is s.rows lows lows_back) ∙ lows_back ∙ s.rows.ok.0

    -- The row itself is taken out.
    module _ (zs : List LogRow) (k : OrderedList)
        (M : Now (with_items s.rows lows) s.entries k zs (take at (take s.entries.count (with_items s.rows lows).items) ++ drop (at + 1) (take s.entries.count (with_items s.rows lows).items))) where
      rows_left : take k.count (with_items (with_items s.rows lows) zs).items ≡ left (rows_of s) at r
      rows_left =
          let A : List LogRow = take (at + 1) (rows_of s) in
          let B : List LogRow = map (lowered r.length) (drop (at + 1) (rows_of s)) in
          let l : length A ≡ at + 1 = length-take-le (at + 1) (rows_of s) (omega (arith, within, rows-length s)) in
          M.items ∙ ap (λ v. take at v ++ drop (at + 1) v) rows_low
          ∙ ap (λ v. v ++ drop (at + 1) (A ++ B)) (take-append-le at A B (omega arith) ∙ take-take at (at + 1) (rows_of s) (omega arith))
          ∙ ap (λ v. take at (rows_of s) ++ v) (drop_at A B (at + 1) l ∙ ap (λ n. map (lowered r.length) (drop n (rows_of s))) (add-one at))

      pub rows_out : k.count + 1 ≡ s.entries.count
      rows_out =
          omega (
            arith,
            within,
            M.count,
            ap length (sym M.items ∙ rows_left),
            length-append (take at (rows_of s)) (map (lowered r.length) (drop (suc at) (rows_of s))),
            length-map (drop (suc at) (rows_of s)) (lowered r.length),
            rows-length s,
            length-take-le at (rows_of s) (omega (arith, within, rows-length s)),
            length-drop (suc at) (rows_of s),
          )

      -- The octets move down over its payload.
      module _ (bs' : List ℕ) (l : OrderedList)
          (N : Now s.octets s.packed l bs' (take r.offset (take s.packed.count s.octets.items) ++ drop (r.offset + r.length) (take s.packed.count s.octets.items))) where
        pub octets_out : l.count + r.length ≡ s.packed.count
        octets_out =
            let bs : List ℕ = s.octets.items in
            let used : ℕ = s.packed.count in
            let ends = (known_at s at r there).ends_in in
            let lu : length (take used bs) ≡ used = length-take-le used bs s.octets_fit in
            omega (
              arith,
              N.count,
              length-append (take r.offset (take used bs)) (drop (r.offset + r.length) (take used bs)),
              lu,
              length-take-le r.offset (take used bs) (omega (arith, ends, lu)),
              length-drop (r.offset + r.length) (take used bs),
              ends,
            )

        pub removing : Keeps s (with_items s.octets bs').items (with_items (with_items s.rows lows) zs).items l.count k.count (remove (entries_of s) at)
        removing =
            let used : ℕ = s.packed.count in
            let bs : List ℕ = s.octets.items in
            let n : k.count ≡ s.entries.count - 1 = omega (arith, rows_out) in
            let u : l.count ≡ used - r.length = omega (arith, octets_out) in
            let b : take (used - r.length) (with_items s.octets bs').items ≡ take r.offset bs ++ drop (r.offset + r.length) (take used bs) =
            ap (λ v. take v (with_items s.octets bs').items) (sym u) ∙ N.items
            ∙ ap (λ v. v ++ drop (r.offset + r.length) (take used bs)) (take-take r.offset used bs (omega (arith, (known_at s at r there).ends_in))) in
            let h = shrinks bs (with_items s.octets bs').items (rows_of s) at r used (packed s) there b in
            let P : List LogRow → Type 0 = λ v. offsets v ≡ starts 0 v in
            record {
              octets_same = N.long;
              rows_same = M.long ∙ lows_long;
              octets_fit = omega (arith, u, N.long, s.octets_fit);
              rows_fit = omega (arith, n, M.long, lows_long, s.rows_fit);
              no_gaps = subst P (sym rows_left) h.gapless;
              no_rest = ap total rows_left ∙ h.sum ∙ sym u;
              all = ap (cut (with_items s.octets bs').items) rows_left ∙ h.cuts;
              more = omega (arith, rows_out, length-remove (entries_of s) at (omega (arith, within, entries-length s)), entries-length s);
            }
