use Rattle.std.proofs.Common.{◌≡◌, ◌+◌, min, IfSome, length, sym, refl, rules}
use Rattle.session.proofs.Chunking.{ended_message, joined, not_taken, oversized}
use Rattle.session.proofs.session.Session.end_chunk.Goals as goal

pub returns-then-not-takes_chunks : goal.returns-then-not-takes_chunks
returns-then-not-takes_chunks c = record {
  after = λ g p text body w b m n. not_taken g p c.args.self.now _ c.args.area.now c.args.sheet.now c.args.chunk c.args.joins text body b m n (sym c.if-not-takes_chunks.ensures) refl refl refl refl refl refl;
}

pub returns-then-chunk : goal.returns-then-chunk
returns-then-chunk c =
    let k : IfSome c.then-payload.result (λ v. v ≡ min (c.args.self.now.kept + c.args.chunk.size) (length c.args.area.now)) = search rules in
    record {
      after = λ g p text body w b m n. ended_message g p c.args.self.now c.end_message.new.self c.args.area.now c.args.sheet.now c.args.chunk c.args.joins text body b m n (sym c.if-not-takes_chunks.ensures) c.if-chunk.true w c.then-payload.result c.then-payload.ensures.variant k c.end_message.result c.end_message.ensures.answer c.end_message.ensures.started;
    }

pub returns-in-Some : goal.returns-in-Some
returns-in-Some c =
    let k : c.in-Some.kept ≡ min (c.args.self.now.kept + c.args.chunk.size) (length c.args.area.now) = search rules in
    record {
      after = λ g p text body w b m n. joined g p c.args.self.now _ c.args.area.now c.args.sheet.now c.args.chunk c.args.joins text body b m n (sym c.if-not-takes_chunks.ensures) (sym c.in-Some.ensures.variant) c.if-chunk.false refl refl w k refl refl refl;
    }

pub returns-in-None : goal.returns-in-None
returns-in-None c = record {
  after = λ g p text body w b m n. oversized g p c.args.self.now c.start.new.self c.args.area.now c.args.sheet.now c.args.chunk c.args.joins text body b m n (sym c.if-not-takes_chunks.ensures) (sym c.in-None.ensures.variant) c.if-chunk.false c.start.ensures;
}
