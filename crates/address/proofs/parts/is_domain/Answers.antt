use Rattle.std.proofs.Common.{rules}
use Rattle.address.proofs.Fronts.{all_domain}
use Rattle.address.proofs.parts.is_domain.Goals as goal

pub returns : goal.returns
returns c = search (rules, all_domain c.args.s.now)
