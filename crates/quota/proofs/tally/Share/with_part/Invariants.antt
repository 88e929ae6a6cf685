use Rattle.std.proofs.Common.{◌≡◌, ◌+◌, take}
use Rattle.quota.specs.Shares.{entries_of, octets_of}
use Rattle.spool.specs.Rules.{part_of}
use Rattle.quota.proofs.tally.Share.with_part.Given as goal

abbrev pub invariant-loop-at : goal.invariant-loop-at
invariant-loop-at g l = record {
  entries : l.self.entries ≡ l.initial.self.entries + entries_of l.mailbox (take l.at (part_of l.part (g.S.Spool.held l.below) (g.S.Spool.lot l.below)));
  octets : l.self.octets ≡ l.initial.self.octets + octets_of l.mailbox (take l.at (part_of l.part (g.S.Spool.held l.below) (g.S.Spool.lot l.below)));
}
