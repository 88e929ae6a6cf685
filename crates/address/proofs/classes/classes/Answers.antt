-- The table lists the sums of the octets 0 to 255.
use Rattle.std.proofs.Common.{◌≡◌, map, get_or, refl, ap, ◌∙◌, zero-add, arith}
use Rattle.std.specs.List.{range_with_len}
use Rattle.std.proofs.lemmas.List.FromFn.{get_or-map-range_with_len}
use Rattle.address.specs.Classes.{atext, qtext, let_dig, printable, classes_of}
use Rattle.address.specs.declared.classes.TheConstants.{CLASSES}
use Rattle.address.proofs.classes.classes.Goals as goal

listed : CLASSES ≡ map classes_of (range_with_len 0 256)
unfolding atext qtext let_dig printable
listed = refl

pub returns : goal.returns
returns c =
    let x = c.args.octet in
    ap (λ v. get_or v x 0) listed
    ∙ get_or-map-range_with_len classes_of 0 256 x x 0 (omega (arith, c.ranges.octet.fits)) (zero-add x)
