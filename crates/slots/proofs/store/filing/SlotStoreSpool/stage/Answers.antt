use Rattle.std.proofs.Common.{◌≡◌, ◌+◌, ◌*◌, ◌≤◌, [], ◌∷◌, ◌++◌, map, length, None, sym, ap, ◌∙◌, arith}
use Rattle.std.specs.Option.{unwrap_or}
use Rattle.std.specs.Vec.{with_items}
use Rattle.spool.specs.Entries.{Entry}
use Rattle.spool.proofs.Told.{room_had}
use Rattle.spool.specs.Lots.{held_in, lot_in}
use Rattle.spool.proofs.Lots.{filed_some, held_longer, lot_extended}
use Rattle.slots.specs.Stores.{entries, room_for, view}
use Rattle.slots.specs.Tables.{used_rows}
use Rattle.slots.specs.Holdings.{entries-length}
use Rattle.slots.proofs.Steps.{entries_more, octets_kept, payload_ends, rows_longer, rows_short, ws}
use Rattle.slots.proofs.store.filing.SlotStoreSpool.stage.Goals as goal
use Rattle.slots.proofs.store.filing.SlotStoreSpool.stage.Goals.{After-claim-slot, After-copy_from_slice}

room : (c : After-claim-slot) → room_for c.args.self.now c.args.mailbox (length c.args.payload.now) ≡ None
room c = (room_had c.args.mailbox _ c.in_ok-room.ensures).1

ends : (c : After-claim-slot) → c.claim-slot.result * c.args.self.now.size + length c.args.payload.now ≤ length c.args.self.now.octets.items
ends c = payload_ends c.args.self.now c.claim-slot.new.self c.claim-slot.result c.args.mailbox c.args.payload.now (room c) c.claim-slot.ensures.rows c.claim-slot.ensures.slots

pub overflow_mul-from : goal.overflow_mul-from
overflow_mul-from c = let s = c.args.self.now in omega (arith, ends c, s.octets.ok.0, s.octets.small)

pub overflow_add-from : goal.overflow_add-from
overflow_add-from c = let s = c.args.self.now in omega (arith, ends (goal.at.overflow_add-from c).After-claim-slot, s.octets.ok.0, s.octets.small)

pub slice_bounds-copy_from_slice-end : goal.slice_bounds-copy_from_slice-end
slice_bounds-copy_from_slice-end c = omega (arith, ends (goal.at.slice_bounds-copy_from_slice-end c).After-claim-slot, ap length c.deref_mut.ensures.value)

pub invariant_of-self : goal.invariant_of-self
invariant_of-self c =
    let s = c.args.self.now in
    let m = c.args.mailbox in
    let p = c.args.payload.now in
    let t' = c.claim-slot.new.self in
    let slot = c.claim-slot.result in
    let rows = c.claim-slot.ensures.rows in
    let slots = c.claim-slot.ensures.slots in
    let u = room (goal.at.invariant_of-self c).After-claim-slot in
    let k = octets_kept s t' slot m p u rows slots c.deref_mut.result.now c.copy_from_slice.new.self c.deref_mut.ensures.value c.copy_from_slice.ensures.after in
    let n = rows_longer s t' slot m p u rows slots in record {
      even = ap (λ v. v * s.size) slots ∙ s.even ∙ sym k;
      high = s.high;
      some = omega (arith, slots, s.some);
      short = rows_short s t' slot m p u rows slots;
      front = omega (arith, n, s.front, ap (λ v. unwrap_or v (length (used_rows t'))) (filed_some s.lot (length (used_rows s.table)) (sym c.if-not-is_open.ensures)));
    }

more : (c : After-copy_from_slice) → let s = c.args.self.now in
    map (view (with_items s.octets (ws s c.claim-slot.new.self c.claim-slot.result c.args.mailbox c.args.payload.now (room (goal.at.After-copy_from_slice c).After-claim-slot) c.claim-slot.ensures.rows c.claim-slot.ensures.slots c.deref_mut.result.now c.copy_from_slice.new.self c.deref_mut.ensures.value c.copy_from_slice.ensures.after)).items s.size) (used_rows c.claim-slot.new.self)
    ≡ entries s ++ record { mailbox = c.args.mailbox; payload = c.args.payload.now } ∷ []
more c =
    entries_more c.args.self.now c.claim-slot.new.self c.claim-slot.result c.args.mailbox c.args.payload.now (room (goal.at.After-copy_from_slice c).After-claim-slot) c.claim-slot.ensures.rows c.claim-slot.ensures.slots
    c.deref_mut.result.now c.copy_from_slice.new.self c.deref_mut.ensures.value c.copy_from_slice.ensures.after

pub returns-clause-held : goal.returns-clause-held
returns-clause-held c =
    let s = c.args.self.now in
    let e : Entry = record { mailbox = c.args.mailbox; payload = c.args.payload.now } in
    ap (held_in s.lot) (more (goal.at.returns-clause-held c).After-copy_from_slice)
    ∙ held_longer s.lot (entries s) (length (used_rows s.table)) (entries-length s) (e ∷ []) (sym c.if-not-is_open.ensures) s.front

pub returns-clause-lot : goal.returns-clause-lot
returns-clause-lot c =
    let s = c.args.self.now in
    let m = c.args.mailbox in
    let p = c.args.payload.now in
    let e : Entry = record { mailbox = m; payload = p } in
    let g = room_had m _ c.in_ok-room.ensures in
    ap (lot_in s.lot) (more (goal.at.returns-clause-lot c).After-copy_from_slice)
    ∙ lot_extended s.lot (entries s) (length (used_rows s.table)) e (room_for s m (length p)) (entries-length s) (sym c.if-not-is_open.ensures) s.front g.0 g.1
