use Rattle.std.proofs.Common.{◌≡◌, Ok, sym, refl, ◌∙◌, rules}
use Rattle.judgement.specs.declared.judged.Asked.TheVariants as asks
use Rattle.session.specs.Places.{setting_of}
use Rattle.session.specs.Seeking.{number_of}
use Rattle.session.proofs.Hearing.{announce_hears, obey_hears}
use Rattle.session.proofs.session.Session.hear_line.Goals as goal

pub returns-in-Ok-Chunk : goal.returns-in-Ok-Chunk
returns-in-Ok-Chunk g c =
    let x = c.args.self.now in
    let area = c.args.area.now in
    announce_hears (setting_of x c.args.name.now area (g.D.Directory.told c.args.directory.now)) x area c.args.sheet.now c.args.octet c.push.new.self c.clear.new.self c.text-text.result.now c.is_long.result c.judge-judged.result refl refl c.requires.mode c.requires.open c.if-not-push.ensures c.text-text.ensures c.is_long.ensures c.judge-judged.ensures c.clear.ensures c.announce.new.self c.in-Ok-Chunk.chunk c.announce.result (let e : c.judge-judged.result ≡ Ok (asks.Chunk c.in-Ok-Chunk.chunk) = search rules in e) c.announce.ensures

pub returns-in_default : goal.returns-in_default
returns-in_default g c =
    let x = c.args.self.now in
    let area = c.args.area.now in
    obey_hears (setting_of x c.args.name.now area (g.D.Directory.told c.args.directory.now)) x area c.args.sheet.now c.args.octet c.push.new.self c.clear.new.self c.text-text.result.now c.is_long.result c.judge-judged.result refl refl c.requires.mode c.requires.open c.if-not-push.ensures c.text-text.ensures c.is_long.ensures c.judge-judged.ensures c.clear.ensures c.obey.new.self c.obey.new.sheet (number_of c.seek-asked.result) c.obey.result c.seek-asked.ensures c.obey.ensures (c.obey.array_long2 ∙ sym c.told-sheet)
