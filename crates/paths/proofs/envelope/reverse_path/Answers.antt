use Rattle.std.proofs.Common.{refl}
use Rattle.paths.proofs.Bare.{null_only}
use Rattle.paths.proofs.envelope.reverse_path.Goals as goal

pub returns-then-is_null : goal.returns-then-is_null
returns-then-is_null c = null_only c.args.s.now (c.if-is_null.ensures.0 refl)
