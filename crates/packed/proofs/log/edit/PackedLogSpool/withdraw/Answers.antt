use Rattle.std.proofs.Common.{◌≡◌, ◌≤◌, List, take, sym, ap, ◌∙◌, subst, arith}
use Rattle.std.specs.Option.{unwrap_or}
use Rattle.std.proofs.lemmas.List.{take-take}
use Rattle.spool.specs.Lots.{held_before}
use Rattle.spool.proofs.Lots.{held_is}
use Rattle.packed.specs.Meaning.{entries_of, filed_of, rows_of}
use Rattle.packed.specs.Packing.{cut, total, offsets, starts}
use Rattle.packed.specs.declared.row.LogRow.{LogRow}
use Rattle.packed.specs.Cuts.{gapless-take, take-cut, total-take}
use Rattle.packed.specs.Logs.{entries-length, rows-length}
use Rattle.packed.proofs.log.edit.PackedLogSpool.withdraw.Goals as goal
use Rattle.packed.proofs.log.edit.PackedLogSpool.withdraw.Goals.{After-truncate-2}

count_is : (c : After-truncate-2) → c.truncate-2.new.self.count ≡ filed_of c.args.self.now
count_is c = let s = c.args.self.now in omega (arith, c.truncate-2.ensures, s.filed_fit, ap (λ v. unwrap_or v s.entries.count) c.in-Some.ensures.answer)

-- The rows that stay are those of the held entries.
stay : (c : After-truncate-2) → take (filed_of c.args.self.now) (rows_of c.args.self.now) ≡ take c.truncate-2.new.self.count c.args.self.now.rows.items
stay c =
    let s = c.args.self.now in
    take-take (filed_of s) s.entries.count s.rows.items s.filed_fit ∙ ap (λ v. take v s.rows.items) (sym (count_is c))

pub invariant_of-self-2 : goal.invariant_of-self-2
invariant_of-self-2 c =
    let s = c.args.self.now in
    let f = filed_of s in
    let n = c.truncate-2.new.self.count in
    let w : total (take f (rows_of s)) ≤ s.packed.count = omega (arith, total-take f (rows_of s), s.no_rest) in
    let P : List LogRow → Type 0 = λ v. offsets v ≡ starts 0 v in record {
      octets_low = s.octets_low;
      octets_high = s.octets_high;
      rows_low = s.rows_low;
      rows_high = s.rows_high;
      octets_fit = omega (arith, c.truncate.ensures, s.octets_fit);
      rows_fit = omega (arith, count_is c, s.filed_fit, s.rows_fit);
      filed_fit = omega (arith, ap (λ v. unwrap_or v n) c.end.ensures.after);
      no_gaps = subst P (stay c) (gapless-take f (rows_of s) s.no_gaps);
      no_rest = ap total (sym (stay c)) ∙ omega (arith, c.truncate.ensures, w, c.lot_start-start.ensures, ap total (held_is s.lot (rows_of s) s.entries.count (rows-length s)));
    }

pub returns-clause-held : goal.returns-clause-held
returns-clause-held c =
    let s = c.args.self.now in
    let d = (goal.at.returns-clause-held c).After-truncate-2 in
    let all = cut s.octets.items (take c.truncate-2.new.self.count s.rows.items) in
    ap (λ v. held_before v all) c.end.ensures.after
    ∙ ap (cut s.octets.items) (sym (stay d)) ∙ sym (take-cut (filed_of s) s.octets.items (rows_of s))
    ∙ sym (held_is s.lot (entries_of s) s.entries.count (entries-length s))
