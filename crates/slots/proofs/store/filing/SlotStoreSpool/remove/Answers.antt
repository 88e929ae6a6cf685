use Rattle.std.proofs.Common.{◌≡◌, ◌+◌, ◌*◌, ◌<◌, cond, ltb, map, length, sym, ap, ◌∙◌, arith}
use Rattle.std.specs.List.{remove}
use Rattle.std.proofs.lemmas.List.Edits.{length-remove}
use Rattle.std.proofs.lemmas.List.Sums.{sum_by-remove}
use Rattle.std.proofs.lemmas.List.{length-map}
use Rattle.spool.proofs.Lots.{filed_all, held_all, lot_none}
use Rattle.spool.proofs.Told.{remains_done}
use Rattle.slots.specs.Slots.{overlong}
use Rattle.slots.specs.Stores.{entries, held_of, lot_of, view}
use Rattle.slots.specs.Tables.{slot_count, used_rows}
use Rattle.slots.specs.declared.row.SlotRow.{SlotRow}
use Rattle.slots.specs.Holdings.{entries-length, payload_short, room_there}
use Rattle.slots.specs.Views.{map_removed}
use Rattle.slots.proofs.store.filing.SlotStoreSpool.remove.Goals as goal
use Rattle.slots.proofs.store.filing.SlotStoreSpool.remove.Goals.{After-release}

there : (c : After-release) → c.args.at < length (used_rows c.args.self.now.table)
there c = omega (arith, c.if-at-len.false, c.len.ensures)

fewer : (c : After-release) → length (used_rows c.release.new.self) + 1 ≡ length (used_rows c.args.self.now.table)
fewer c = ap (λ v. length v + 1) c.release.ensures.rows ∙ length-remove (used_rows c.args.self.now.table) c.args.at (there c)

pub invariant_of-self : goal.invariant_of-self
invariant_of-self c =
    let s = c.args.self.now in
    let us = used_rows s.table in
    let n = c.release.ensures.slots in
    let d : SlotRow = record { slot = 0; length = 0; mailbox = 0 } in
    let o = sum_by-remove (λ (r : SlotRow). cond (ltb s.size r.length) 1 0) us c.args.at d (there c) in
    record {
      even = ap (λ v. v * s.size) n ∙ s.even;
      high = s.high;
      some = omega (arith, n, s.some);
      short = omega (arith, ap (overlong s.size) c.release.ensures.rows, o, s.short);
      front = omega (arith, filed_all s.lot c.if-is_open.ensures (length (used_rows c.release.new.self)));
    }

pub returns-clause-held : goal.returns-clause-held
returns-clause-held c =
    let s = c.args.self.now in
    let at = c.args.at in
    let f = view s.octets.items s.size in
    let closed = c.if-is_open.ensures in
    held_all s.lot closed (map f (used_rows c.release.new.self))
    ∙ ap (map f) c.release.ensures.rows ∙ map_removed f (used_rows s.table) at
    ∙ ap (λ v. remove v at) (sym (held_all s.lot closed (entries s)))
    ∙ remains_done (lot_of s) (held_of s) at (lot_none s.lot closed (entries s))
    (omega (arith, ap length (held_all s.lot closed (entries s)), entries-length s, there (goal.at.returns-clause-held c).After-release))

pub returns-clause-room : goal.returns-clause-room
returns-clause-room c =
    let s = c.args.self.now in
    let d = (goal.at.returns-clause-room c).After-release in
    let left = map (view s.octets.items s.size) (used_rows c.release.new.self) in
    let free : length left < slot_count c.release.new.self = omega (arith, length-map (used_rows c.release.new.self) (view s.octets.items s.size), fewer d, c.release.ensures.slots, s.table.whole) in
    λ _ e i. room_there s.size (slot_count c.release.new.self) (length left) (length e.payload) (payload_short s c.args.at e i) free
