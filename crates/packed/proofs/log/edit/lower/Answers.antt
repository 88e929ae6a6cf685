use Rattle.std.proofs.Common.{◌≡◌, ◌-◌, get_or, length, map, take, drop, ap, ◌∙◌, arith, rules}
use Rattle.std.proofs.lemmas.List.{drop_all, get_or_default, get_or-append_right, get_or-drop, length-map, length-take-le, take_all}
use Rattle.std.proofs.lemmas.List.Edits.{map_over_more}
use Rattle.std.proofs.lemmas.Option.{slice_get-get_or}
use Rattle.packed.specs.Packing.{lowered}
use Rattle.packed.specs.declared.row.LogRow.{LogRow}
use Rattle.packed.proofs.log.edit.lower.Goals as goal

pub overflow_sub-row : goal.overflow_sub-row
overflow_sub-row c =
    let d : LogRow = record { offset = 0; length = 0; mailbox = 0 } in
    let i = c.loop-row.row-index in
    let rs = c.args.rows.now in
    let done = map (lowered c.args.by) (take i rs) in
    let n : length done ≡ i = length-map (take i rs) (lowered c.args.by) ∙ length-take-le i rs (omega arith) in
    let e : get_or c.loop-row.rows i d ≡ get_or rs i d =
    ap (λ v. get_or v i d) c.loop-row.invariant ∙ get_or-append_right done (drop i rs) i i d n (omega arith) ∙ get_or-drop i rs (i - i) d ∙ ap (λ k. get_or rs k d) (omega arith) in
    omega (arith, c.requires i (get_or rs i d) (slice_get-get_or rs i d (omega arith)), ap (λ v. v.offset) e)

pub loop-row-preserved : goal.loop-row-preserved
loop-row-preserved c =
    map_over_more (lowered c.args.by) c.args.rows.now c.loop-row.rows c.loop-row.row-index _ (omega arith) c.loop-row.invariant (get_or_default c.loop-row.rows c.loop-row.row-index _ _ (omega arith))

pub returns : goal.returns
returns c = search (rules, drop_all, take_all)
