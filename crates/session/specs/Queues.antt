-- Replies that wait to be written, in order.
use Rattle.std.specs.Prelude.{List, [], ◌∷◌, take, drop, Some, None, Option}
use Rattle.protocol.specs.declared.reply.Reply.{Reply}
use Rattle.session.specs.declared.waiting.Waiting.{Waiting}

abbrev pub waits : Waiting → List Reply
waits w = drop w.sent (take w.count w.replies)

abbrev pub first : List Reply → Option Reply
first [] = None
first (r ∷ rs) = Some r
