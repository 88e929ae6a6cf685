use Rattle.std.proofs.Common.{◌≡◌, ◌++◌, take, drop}
use Rattle.filing.specs.Collecting.{earliest, without}
use Rattle.filing.proofs.collect.find.Given as goal

-- no entry before the place is for the mailbox
abbrev pub invariant-loop-at : goal.invariant-loop-at
invariant-loop-at g l =
    (earliest l.mailbox (g.S.Spool.held l.spool) ≡ earliest l.mailbox (drop l.at (g.S.Spool.held l.spool)))
    × (without l.mailbox (g.S.Spool.held l.spool) ≡ take l.at (g.S.Spool.held l.spool) ++ without l.mailbox (drop l.at (g.S.Spool.held l.spool)))
