use Rattle.std.proofs.Common.{take, rules}
use Rattle.session.proofs.Hearing.{heard_in}
use Rattle.session.proofs.session.Session.hear.Goals as goal

pub returns-in-Chunk-clause-hears : goal.returns-in-Chunk-clause-hears
returns-in-Chunk-clause-hears g c =
    let a = c.args in
    let h = c.hear_chunk in
    heard_in a.self.now h.new.self a.area.now h.new.area a.sheet.now c.in-Some.sheet.now (take h.result.taken a.input.now) h.result.event a.name.now (g.D.Directory.told a.directory.now) (search rules) h.ensures.hears

pub returns-in-Data-clause-hears : goal.returns-in-Data-clause-hears
returns-in-Data-clause-hears g c =
    let a = c.args in
    let h = c.hear_data in
    heard_in a.self.now h.new.self a.area.now h.new.area a.sheet.now c.in-Some.sheet.now (take h.result.taken a.input.now) h.result.event a.name.now (g.D.Directory.told a.directory.now) (search rules) h.ensures.hears
