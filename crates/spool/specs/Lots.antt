-- A lot over what lies in filing order, be it entries or their rows: while it is open so many of them are held, and the others are
-- staged in it. Without a lot all are held.
use Rattle.std.specs.Prelude.{ℕ, List, take, drop, Some, None, Option}
use Rattle.std.specs.Option.{option_map, unwrap_or}
use Rattle.spool.specs.Rules.{part_of}
use Rattle.spool.specs.declared.entry.Part.{Part}
use Rattle.spool.specs.declared.lot.Lot.{Lot}

-- What is held.
abbrev pub held_before : {X : Type 0} → Option ℕ → List X → List X
held_before None xs = xs
held_before (Some n) xs = take n xs

abbrev pub held_in : {X : Type 0} → Lot → List X → List X
held_in l xs = held_before l.held xs

-- The lot: none, or what is staged.
abbrev pub lot_in : {X : Type 0} → Lot → List X → Option (List X)
lot_in l xs = option_map (λ n. drop n xs) l.held

-- A part of what there is.
abbrev pub part_in : {X : Type 0} → Part → Lot → List X → List X
part_in part l xs = part_of part (held_in l xs) (lot_in l xs)

-- How many of so many are held.
abbrev pub filed_in : Lot → ℕ → ℕ
filed_in l count = unwrap_or l.held count
