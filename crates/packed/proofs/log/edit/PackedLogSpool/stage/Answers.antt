use Rattle.std.proofs.Common.{[], ◌∷◌, ◌++◌, length, refl, sym, ap, ◌∙◌, arith}
use Rattle.std.specs.Option.{unwrap_or}
use Rattle.std.specs.Vec.{with_items}
use Rattle.std.proofs.lemmas.List.{length-append}
use Rattle.spool.specs.Entries.{Entry}
use Rattle.spool.proofs.Fronts.{count_is}
use Rattle.spool.proofs.Owned as owned
use Rattle.spool.proofs.Told.{room_had}
use Rattle.spool.proofs.Lots.{filed_some, held_longer, lot_extended}
use Rattle.spool.specs.Lots.{held_in, lot_in}
use Rattle.packed.specs.Meaning.{entries_of, room_for}
use Rattle.packed.specs.declared.row.LogRow.{LogRow}
use Rattle.packed.specs.Logs.{entries-length, room_free}
use Rattle.packed.proofs.Steps.{Keeps, staging}
use Rattle.packed.proofs.log.edit.PackedLogSpool.stage.Goals as goal
use Rattle.packed.proofs.log.edit.PackedLogSpool.stage.Goals.{After-append}

-- The memory once the payload and its row are appended.
kept : (c : After-append) → Keeps c.args.self.now (with_items c.args.self.now.octets c.extend.new.memory).items (with_items c.args.self.now.rows c.append.new.memory).items c.extend.new.self.count c.append.new.self.count (entries_of c.args.self.now ++ record { mailbox = c.args.mailbox; payload = c.args.payload.now } ∷ [])
kept c =
    let s = c.args.self.now in
    let m = c.args.mailbox in
    let p = c.args.payload.now in
    let row : LogRow = record { offset = c.len.result; length = length p; mailbox = m } in
    let f = room_free s m (length p) (room_had m _ c.in_ok-room.ensures).1 in
    staging s m p c.extend.new.memory row c.append.new.memory c.extend.new.self c.append.new.self f
    (count_is s.octets.items c.as_slice.result.now s.packed.count c.len.result c.as_slice.ensures.value s.octets_fit c.len.ensures) refl refl
    (owned.extended s.octets s.packed c.extend.new.self c.as_mut_slice.result.now c.extend.new.memory c.extend.result c.as_mut_slice.ensures.value (omega arith) s.octets_fit
    p (omega (arith, f.octets, s.octets_fit)) c.extend.ensures.answer c.extend.ensures.after c.extend.ensures.count)
    (owned.extended s.rows s.entries c.append.new.self c.as_mut_slice-2.result.now c.append.new.memory c.append.result c.as_mut_slice-2.ensures.value (omega arith) s.rows_fit
    (row ∷ []) (omega (arith, f.row)) c.append.ensures.answer c.append.ensures.after c.append.ensures.count)

pub invariant_of-self-2 : goal.invariant_of-self-2
invariant_of-self-2 c =
    let s = c.args.self.now in
    let m = c.args.mailbox in
    let p = c.args.payload.now in
    let k = kept (goal.at.invariant_of-self-2 c).After-append in record {
      octets_low = omega (arith, s.octets_low, k.octets_same);
      octets_high = omega (arith, s.octets_high, k.octets_same);
      rows_low = omega (arith, s.rows_low, k.rows_same);
      rows_high = omega (arith, s.rows_high, k.rows_same);
      octets_fit = k.octets_fit;
      rows_fit = k.rows_fit;
      filed_fit = omega (arith, ap (λ v. unwrap_or v c.append.new.self.count) (filed_some s.lot s.entries.count (sym c.if-not-is_open.ensures)), s.filed_fit, k.more, length-append (entries_of s) (record { mailbox = m; payload = p } ∷ []), entries-length s);
      no_gaps = k.no_gaps;
      no_rest = k.no_rest;
    }

pub returns-clause-held : goal.returns-clause-held
returns-clause-held c =
    let s = c.args.self.now in
    let e : Entry = record { mailbox = c.args.mailbox; payload = c.args.payload.now } in
    ap (held_in s.lot) (kept (goal.at.returns-clause-held c).After-append).all
    ∙ held_longer s.lot (entries_of s) s.entries.count (entries-length s) (e ∷ []) (sym c.if-not-is_open.ensures) s.filed_fit

pub returns-clause-lot : goal.returns-clause-lot
returns-clause-lot c =
    let s = c.args.self.now in
    let m = c.args.mailbox in
    let p = c.args.payload.now in
    let e : Entry = record { mailbox = m; payload = p } in
    let g = room_had m _ c.in_ok-room.ensures in
    ap (lot_in s.lot) (kept (goal.at.returns-clause-lot c).After-append).all
    ∙ lot_extended s.lot (entries_of s) s.entries.count e (room_for s m (length p)) (entries-length s) (sym c.if-not-is_open.ensures) s.filed_fit g.0 g.1
