use Rattle.std.proofs.Common.{rules}
use Rattle.address.proofs.Fronts.{all_local}
use Rattle.address.proofs.parts.is_local_part.Goals as goal

pub returns : goal.returns
returns c = search (rules, all_local c.args.s.now)
