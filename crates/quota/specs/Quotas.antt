-- The rules of a quota layer.
use Rattle.std.specs.Prelude.{ℕ, ◌+◌, ◌≤◌, min, Bool, cond, not, ◌&&◌, List, [], ◌∷◌, length, is_some, Some, Option, ◌==◌, nat_le}
use Rattle.std.specs.Option.{option_map}
use Rattle.spool.specs.Entries.{Entry}
use Rattle.refusals.specs.Refusals.{Notice, fault}
use Rattle.refusals.specs.declared.refusal.Cause.{Cause}
use Rattle.refusals.specs.declared.refusal.Cause.TheVariants.{EntryLimit, OctetLimit}
use Rattle.refusals.specs.declared.refusal.RoomFault.{RoomFault}
use Rattle.quota.specs.Shares.{entries_of, octets_of}
use Rattle.quota.specs.declared.limits.Limits.{Limits}

-- From a low end to a high end, both included.
abbrev pub in_range : ℕ → ℕ → ℕ → Bool
in_range low high n = nat_le low n && nat_le n high

-- A layer may be built with limits in their ranges, over a spool that holds nothing and has no lot open.
abbrev pub lawful : ℕ → ℕ → List Entry → Option (List Entry) → Bool
lawful most wide h l = (in_range 1 1000 most && in_range 512 65536 wide) && (length h == 0 && not (is_some l))

-- A fault from below lies one layer further off; the layer stops at nine.
abbrev pub further : ℕ → ℕ
further layer = min (layer + 1) 9

abbrev pub lifted : RoomFault → RoomFault
lifted f = record { layer = further f.layer; cause = f.cause }

-- The same of a refusal: what it carries, if anything, is a fault, the layer first.
abbrev pub raised_values : List ℕ → List ℕ
raised_values [] = []
raised_values (layer ∷ rest) = further layer ∷ rest

abbrev pub raised : Notice → Notice
raised n = record { number = n.number; values = raised_values n.values }

-- A fault of the layer itself.
abbrev pub own : Cause → Option RoomFault
own cause = Some (fault cause)

-- The room for one entry of n octets more in a mailbox, among the entries that there are: one entry too many is judged
-- first, then octets too many, and then the room below decides.
abbrev pub allows : Limits → List Entry → ℕ → ℕ → Option RoomFault → Option RoomFault
allows q es m n r = cond (nat_le (entries_of m es + 1) q.entries) (cond (nat_le (octets_of m es + n) q.octets) (option_map lifted r) (own OctetLimit)) (own EntryLimit)

-- No mailbox has more than the limits.
abbrev pub Kept : Limits → List Entry → Type 0
Kept q es = (m : ℕ) → (entries_of m es ≤ q.entries) × (octets_of m es ≤ q.octets)
