use Rattle.std.proofs.Common.{ℕ, List, [], sym, refl, subst}
use Rattle.std.proofs.lemmas.List.{append-nil}
use Rattle.protocol.specs.Lines.{ended}
use Rattle.session.specs.Places.{After}
use Rattle.session.proofs.Chunking.{came_none}
use Rattle.session.proofs.session.Session.announce.Goals as goal

pub returns-then-chunk-eq0 : goal.returns-then-chunk-eq0
returns-then-chunk-eq0 c = record {
  after = λ g p text w b s h u j l.
      let x = c.args.self.now in
      let P : List ℕ → Type 0 = λ o. After g p o c.end_chunk.new.self c.args.area.now c.args.sheet.now c.end_chunk.result in
      subst P (append-nil (ended text))
      (c.end_chunk.ensures.after g p text [] w b (came_none g p x x c.args.area.now c.args.sheet.now c.args.chunk c.joins-joins.result text b w s h u j l c.joins-joins.ensures) (sym c.if-chunk-eq0.true));
}

pub returns : goal.returns
returns c = record {
  after = λ g p text w b s h u j l.
      let x = c.args.self.now in
      record {
        base = record { kind = b.kind; standing = b.standing; listed = b.listed; wide = b.wide; records = b.records; few = b.few; kept = b.kept };
        mode = record { text = text; body = []; whole = sym (append-nil (ended text)); count = refl; came = came_none g p x _ c.args.area.now c.args.sheet.now c.args.chunk c.joins-joins.result text b w s h u j l c.joins-joins.ensures };
      };
}
