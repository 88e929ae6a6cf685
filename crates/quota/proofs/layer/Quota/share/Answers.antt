use Rattle.std.proofs.Common.{arith}
use Rattle.quota.proofs.Counts.{parts}
use Rattle.quota.proofs.layer.Quota.share.Goals as goal

pub with_part-requires-clause-entries : goal.with_part-requires-clause-entries
with_part-requires-clause-entries g c =
    let q = c.args.self.now in
    omega (arith, parts (g.S.Spool.held q.below) (g.S.Spool.lot q.below) c.args.mailbox, (q.kept c.args.mailbox).0, q.limits.few_entries)

pub with_part-requires-clause-octets : goal.with_part-requires-clause-octets
with_part-requires-clause-octets g c =
    let q = c.args.self.now in
    omega (arith, parts (g.S.Spool.held q.below) (g.S.Spool.lot q.below) c.args.mailbox, (q.kept c.args.mailbox).1, q.limits.few_octets)

pub with_part-requires-2-clause-entries : goal.with_part-requires-2-clause-entries
with_part-requires-2-clause-entries g c =
    let q = c.args.self.now in
    omega (arith, parts (g.S.Spool.held q.below) (g.S.Spool.lot q.below) c.args.mailbox, (q.kept c.args.mailbox).0, q.limits.few_entries)

pub with_part-requires-2-clause-octets : goal.with_part-requires-2-clause-octets
with_part-requires-2-clause-octets g c =
    let q = c.args.self.now in
    omega (arith, parts (g.S.Spool.held q.below) (g.S.Spool.lot q.below) c.args.mailbox, (q.kept c.args.mailbox).1, q.limits.few_octets)
