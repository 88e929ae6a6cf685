-- Every cause for want of room has a number. That of a cause with a name is its place in the order of judgement.
use Rattle.std.specs.Prelude.{ℕ}
use Rattle.refusals.specs.declared.refusal.Cause.{Cause}
use Rattle.refusals.specs.declared.refusal.Cause.TheVariants.{LongPayload, NoSlot, NoOctets, NoRow, EntryLimit, OctetLimit, Other}

abbrev pub cause_number : Cause → ℕ
cause_number LongPayload = 1
cause_number NoSlot = 2
cause_number NoOctets = 3
cause_number NoRow = 4
cause_number EntryLimit = 5
cause_number OctetLimit = 6
cause_number (Other other) = other.number
