use Rattle.std.proofs.Common.{map, sym, ap, ◌∙◌}
use Rattle.std.proofs.lemmas.List.{take-map}
use Rattle.spool.specs.Lots.{held_before}
use Rattle.slots.specs.Stores.{entries, view}
use Rattle.slots.specs.Tables.{used_rows}
use Rattle.slots.proofs.store.filing.SlotStoreSpool.withdraw.Goals as goal

pub returns-clause-held : goal.returns-clause-held
returns-clause-held c =
    let s = c.args.self.now in
    let f = view s.octets.items s.size in
    ap (λ v. held_before v (map f (used_rows c.keep.new.self))) c.end.ensures.after
    ∙ ap (map f) c.keep.ensures.rows ∙ sym (take-map f c.in-Some.filed (used_rows s.table))
    ∙ ap (λ v. held_before v (entries s)) c.in-Some.ensures.answer
