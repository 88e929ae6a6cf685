use Rattle.std.proofs.Common.{◌≡◌, length, rules}
use Rattle.protocol.proofs.Buffering.{pushed_kept, pushed_long}
use Rattle.protocol.proofs.line.LineBuffer.keep.Goals as goal

pub returns-then-self-lt-LONGEST : goal.returns-then-self-lt-LONGEST
returns-then-self-lt-LONGEST c =
    let full : length c.args.self.now.octets ≡ 538 = search rules in
    pushed_kept c.args.self.now _ full c.requires c.if-self-lt-LONGEST.true

pub returns-else-self-lt-LONGEST : goal.returns-else-self-lt-LONGEST
returns-else-self-lt-LONGEST c = pushed_long c.args.self.now _ c.requires c.if-self-lt-LONGEST.false
