use Rattle.std.proofs.Common.{◌≡◌, ℕ, ◌+◌, ◌-◌, ◌≤◌, ◌++◌, false, List, length, take, drop, Some, Err, Result, sym, ap, ◌∙◌, arith}
use Rattle.std.specs.Vec.{with_items}
use Rattle.std.specs.List.{remove, slice_get}
use Rattle.std.specs.Option.{is_some, option_map}
use Rattle.std.proofs.lemmas.Option.{same_Some, slice_get-map}
use Rattle.refusals.specs.Refusals.{Notice, plain}
use Rattle.spool.specs.Lists.{present, records}
use Rattle.spool.specs.Rules.{removes}
use Rattle.spool.proofs.Owned as owned
use Rattle.spool.proofs.Fronts.{nth_none, present_none, present_some}
use Rattle.spool.proofs.Lots.{filed_all, held_all, lot_none}
use Rattle.spool.proofs.Places.{nth-within}
use Rattle.spool.proofs.Told.{removes_done, removes_past, told_err, remains_done, remains_past}
use Rattle.packed.specs.Meaning.{entries_of, held_of, lot_of, rows_of}
use Rattle.packed.specs.Logs.{entries_by_rows, entries-length, entry_of, known_at, room_of, rows-length}
use Rattle.packed.specs.declared.log.PackedLog.{PackedLog}
use Rattle.packed.specs.declared.row.LogRow.{LogRow}
use Rattle.packed.proofs.Steps.{Keeps, high_enough, lows, lows_long, octets_out, removing, rows_out, within}
use Rattle.packed.proofs.log.edit.PackedLogSpool.remove.Goals as goal
use Rattle.packed.proofs.log.edit.PackedLogSpool.remove.Goals.{After-deref_mut, After-remove}

-- No row at the place: while no lot is open, all entries are held.
past : (s : PackedLog) → false ≡ is_some s.lot.held → (at : ℕ) (vs : List LogRow) → vs ≡ s.rows.items → (e : Notice) → Err e ≡ present (slice_get (records s.entries vs) at) → length (held_of s) ≤ at
past s closed at vs same e h =
    omega (
      arith,
      nth_none (rows_of s) at (present_none _ e (h ∙ ap (λ v. present (slice_get (take s.entries.count v) at)) same)),
      rows-length s,
      ap length (held_all s.lot closed (entries_of s)),
      entries-length s,
    )

refused : (s : PackedLog) → false ≡ is_some s.lot.held → (at : ℕ) (vs : List LogRow) → vs ≡ s.rows.items → (e : Notice) → Err e ≡ present (slice_get (records s.entries vs) at) → Err e ≡ removes (lot_of s) (held_of s) at
refused s closed at vs same e h =
    let n : ◌≡◌ {A = Result LogRow Notice} (Err e) (Err (plain 13)) = h ∙ ap present (present_none _ e h) in
    (let gone : ◌≡◌ {A = Result (Unit {0}) Notice} (Err e) (Err (plain 13)) = cc in gone)
    ∙ removes_past (lot_of s) (held_of s) at (lot_none s.lot closed (entries_of s)) (past s closed at vs same e h)

pub returns-in_err-row-clause-answer : goal.returns-in_err-row-clause-answer
returns-in_err-row-clause-answer c = told_err c.from_residual.result c.in_err-row.field-0.0 c.from_residual.ensures.0 c.from_residual.ensures.1 ∙ refused c.args.self.now c.if-is_open.ensures c.args.at c.as_slice.result.now c.as_slice.ensures.value _ c.in_err-row.ensures

pub returns-in_err-row-clause-held : goal.returns-in_err-row-clause-held
returns-in_err-row-clause-held c =
    let s = c.args.self.now in
    let closed = c.if-is_open.ensures in
    remains_past (lot_of s) (held_of s) c.args.at (lot_none s.lot closed (entries_of s)) (past s closed c.args.at c.as_slice.result.now c.as_slice.ensures.value _ c.in_err-row.ensures)

pub returns-in_err-row-clause-room : goal.returns-in_err-row-clause-room
returns-in_err-row-clause-room c =
    let s = c.args.self.now in
    λ _ e h. absurd (omega (arith, nth-within (held_of s) c.args.at e h, past s c.if-is_open.ensures c.args.at c.as_slice.result.now c.as_slice.ensures.value _ c.in_err-row.ensures))

there : (c : After-deref_mut) → slice_get (rows_of c.args.self.now) c.args.at ≡ Some c.in_ok-row.row
there c = let s = c.args.self.now in ap (λ v. slice_get (take s.entries.count v) c.args.at) (sym c.as_slice.ensures.value) ∙ present_some _ _ c.in_ok-row.ensures

end_is : (c : After-deref_mut) → c.len-end.result ≡ c.args.self.now.entries.count
end_is c = let s = c.args.self.now in c.len-end.ensures ∙ ap (λ v. length (take s.entries.count v)) c.as_slice-2.ensures.value ∙ rows-length s

pub overflow_add-at : goal.overflow_add-at
overflow_add-at c = let s = c.args.self.now in omega (arith, within s c.args.at c.in_ok-row.row (there c), s.rows_fit, s.rows_high)

pub offset_bounds-deref_mut-at : goal.offset_bounds-deref_mut-at
offset_bounds-deref_mut-at c = let s = c.args.self.now in omega (arith, within s c.args.at c.in_ok-row.row (there c), s.rows_fit, s.rows_high)

pub slice_bounds-lower-count : goal.slice_bounds-lower-count
slice_bounds-lower-count c = omega (arith, within c.args.self.now c.args.at c.in_ok-row.row (there c), end_is c)

pub slice_bounds-lower-start : goal.slice_bounds-lower-start
slice_bounds-lower-start c = omega (arith, within c.args.self.now c.args.at c.in_ok-row.row (there c), end_is c)

pub lower-requires : goal.lower-requires
lower-requires c =
    let s = c.args.self.now in
    let d = (goal.at.lower-requires c).After-deref_mut in
    λ k q n. high_enough s c.args.at c.in_ok-row.row (there d) c.deref_mut.result.now c.deref_mut.ensures.value k q (ap (λ e. slice_get (take (e - (c.args.at + 1)) (drop (c.args.at + 1) c.deref_mut.result.now)) k) (sym (end_is d)) ∙ n)

-- The rows once those behind are lowered, and then without the row.
rows_left : (c : After-remove) →
    let s = c.args.self.now in
    let d = (goal.at.After-remove c).After-deref_mut in
    let V = with_items s.rows (lows s c.args.at c.in_ok-row.row (there d) c.deref_mut.result.now c.lower.new.rows c.len-end.result (end_is d) c.deref_mut.ensures.value c.lower.ensures) in
    owned.Now V s.entries c.remove.new.self c.remove.new.memory (take c.args.at (take s.entries.count V.items) ++ drop (c.args.at + 1) (take s.entries.count V.items))
rows_left c =
    let s = c.args.self.now in
    let at = c.args.at in
    let d = (goal.at.After-remove c).After-deref_mut in
    let V = with_items s.rows (lows s at c.in_ok-row.row (there d) c.deref_mut.result.now c.lower.new.rows c.len-end.result (end_is d) c.deref_mut.ensures.value c.lower.ensures) in
    let n = lows_long s at c.in_ok-row.row (there d) c.deref_mut.result.now c.lower.new.rows c.len-end.result (end_is d) c.deref_mut.ensures.value c.lower.ensures in
    owned.shortened V s.entries c.remove.new.self c.as_mut_slice-2.result.now c.remove.new.memory c.remove.result c.as_mut_slice-2.ensures.value (omega arith) (omega (arith, n, s.rows_fit))
    at 1 (omega (arith, within s at c.in_ok-row.row (there d))) c.remove.ensures.answer c.remove.ensures.after c.remove.ensures.count

octets-left : (c : After-remove) →
    let s = c.args.self.now in
    let r = c.in_ok-row.row in
    owned.Now s.octets s.packed c.remove_run.new.self c.remove_run.new.memory
    (take r.offset (take s.packed.count s.octets.items) ++ drop (r.offset + r.length) (take s.packed.count s.octets.items))
octets-left c =
    let s = c.args.self.now in
    let r = c.in_ok-row.row in
    let d = (goal.at.After-remove c).After-deref_mut in
    owned.shortened s.octets s.packed c.remove_run.new.self c.as_mut_slice.result.now c.remove_run.new.memory c.remove_run.result c.as_mut_slice.ensures.value (omega arith) s.octets_fit
    r.offset r.length (known_at s c.args.at r (there d)).ends_in c.remove_run.ensures.answer c.remove_run.ensures.after c.remove_run.ensures.count

kept : (c : After-remove) →
    let s = c.args.self.now in
    let d = (goal.at.After-remove c).After-deref_mut in
    let V = with_items s.rows (lows s c.args.at c.in_ok-row.row (there d) c.deref_mut.result.now c.lower.new.rows c.len-end.result (end_is d) c.deref_mut.ensures.value c.lower.ensures) in
    Keeps s (with_items s.octets c.remove_run.new.memory).items (with_items V c.remove.new.memory).items c.remove_run.new.self.count c.remove.new.self.count (remove (entries_of s) c.args.at)
kept c =
    let s = c.args.self.now in
    let d = (goal.at.After-remove c).After-deref_mut in
    removing s c.args.at c.in_ok-row.row (there d) c.deref_mut.result.now c.lower.new.rows c.len-end.result (end_is d) c.deref_mut.ensures.value c.lower.ensures
    c.remove.new.memory c.remove.new.self (rows_left c) c.remove_run.new.memory c.remove_run.new.self (octets-left c)

pub invariant_of-self-2 : goal.invariant_of-self-2
invariant_of-self-2 c =
    let s = c.args.self.now in
    let K = kept (goal.at.invariant_of-self-2 c).After-remove in record {
      octets_low = omega (arith, s.octets_low, K.octets_same);
      octets_high = omega (arith, s.octets_high, K.octets_same);
      rows_low = omega (arith, s.rows_low, K.rows_same);
      rows_high = omega (arith, s.rows_high, K.rows_same);
      octets_fit = K.octets_fit;
      rows_fit = K.rows_fit;
      filed_fit = omega (arith, filed_all s.lot c.if-is_open.ensures c.remove.new.self.count);
      no_gaps = K.no_gaps;
      no_rest = K.no_rest;
    }

pub returns-clause-answer : goal.returns-clause-answer
returns-clause-answer c =
    let s = c.args.self.now in
    let d = (goal.at.returns-clause-answer c).After-deref_mut in
    removes_done (lot_of s) (held_of s) c.args.at (lot_none s.lot c.if-is_open.ensures (entries_of s)) (omega (arith, within s c.args.at c.in_ok-row.row (there d), ap length (held_all s.lot c.if-is_open.ensures (entries_of s)), entries-length s))

pub returns-clause-held : goal.returns-clause-held
returns-clause-held c =
    let s = c.args.self.now in
    let at = c.args.at in
    let d = (goal.at.returns-clause-held c).After-deref_mut in
    let K = kept (goal.at.returns-clause-held c).After-remove in
    let closed = c.if-is_open.ensures in
    held_all s.lot closed _ ∙ K.all
    ∙ ap (λ v. remove v at) (sym (held_all s.lot closed (entries_of s)))
    ∙ remains_done (lot_of s) (held_of s) at (lot_none s.lot closed (entries_of s)) (omega (arith, within s at c.in_ok-row.row (there d), ap length (held_all s.lot closed (entries_of s)), entries-length s))

pub returns-clause-room : goal.returns-clause-room
returns-clause-room c =
    let s = c.args.self.now in
    let at = c.args.at in
    let r = c.in_ok-row.row in
    let d = (goal.at.returns-clause-room c).After-deref_mut in
    let m = (goal.at.returns-clause-room c).After-remove in
    let K = kept m in
    λ _ e q.
    let f : e ≡ entry_of s r = same_Some _ _ (sym q ∙ ap (λ v. slice_get v at) (held_all s.lot c.if-is_open.ensures (entries_of s)) ∙ ap (λ v. slice_get v at) (entries_by_rows s) ∙ slice_get-map (entry_of s) (rows_of s) at ∙ ap (option_map (entry_of s)) (there d)) in
    let out = octets_out s at r (there d) c.deref_mut.result.now c.lower.new.rows c.len-end.result (end_is d) c.deref_mut.ensures.value c.lower.ensures c.remove.new.memory c.remove.new.self (rows_left m) c.remove_run.new.memory c.remove_run.new.self (octets-left m) in
    let fewer = rows_out s at r (there d) c.deref_mut.result.now c.lower.new.rows c.len-end.result (end_is d) c.deref_mut.ensures.value c.lower.ensures c.remove.new.memory c.remove.new.self (rows_left m) in
    room_of (length e.payload) _ c.remove.new.self.count _
    (omega (arith, ap (λ v. length v.payload) f, (known_at s at r (there d)).long, out, K.octets_same, s.octets_fit))
    (omega (arith, fewer, K.rows_same, s.rows_fit))
