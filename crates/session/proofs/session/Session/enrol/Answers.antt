use Rattle.std.proofs.Common.{ap, arith}
use Rattle.session.specs.Seeking.{number_of}
use Rattle.session.proofs.Obeying.{obeyed_many, obeyed_nobody, obeyed_somebody}
use Rattle.session.proofs.session.Session.enrol.Goals as goal

pub returns-then-len-ge-RECORDS : goal.returns-then-len-ge-RECORDS
returns-then-len-ge-RECORDS c line = obeyed_many c.args.self.now c.args.sheet.now (number_of c.args.asked) line (omega (arith, c.len.ensures))

pub returns : goal.returns
returns c line =
    let a = c.append.ensures in
    let m = c.in-Some.mailbox in
    obeyed_somebody c.args.self.now c.args.sheet.now (number_of c.args.asked) line m.number c.append.new.self c.append.new.memory c.append.result (omega (arith, c.len.ensures)) (ap number_of c.in-Some.is) m.below c.told-sheet c.append.auto.memory a.answer a.after a.count a.memory

pub returns-in_default : goal.returns-in_default
returns-in_default c line = obeyed_nobody c.args.self.now c.args.sheet.now (number_of c.args.asked) line (omega (arith, c.len.ensures)) (ap number_of c.in_default.is)
