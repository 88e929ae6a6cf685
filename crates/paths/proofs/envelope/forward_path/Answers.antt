use Rattle.std.proofs.Common.{refl}
use Rattle.paths.proofs.Bare.{postmaster_only}
use Rattle.paths.proofs.envelope.forward_path.Goals as goal

pub returns-then-is_bare_postmaster : goal.returns-then-is_bare_postmaster
returns-then-is_bare_postmaster c = postmaster_only c.args.s.now (c.if-is_bare_postmaster.ensures.0 refl)
