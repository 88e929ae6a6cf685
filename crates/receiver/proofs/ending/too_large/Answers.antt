use Rattle.std.proofs.Common.{sym, ap, ◌∙◌}
use Rattle.judgement.specs.declared.phase.Kind.{Kind}
use Rattle.protocol.specs.declared.reply.Reply.TheVariants.{TooLarge}
use Rattle.session.specs.Places.{mailboxes}
use Rattle.receiver.specs.Settling.{too_large}
use Rattle.receiver.proofs.Settlement.{all_the_same}
use Rattle.receiver.proofs.ending.too_large.Goals as goal

pub returns-in-Lmtp : goal.returns-in-Lmtp
returns-in-Lmtp c =
    c.of.ensures ∙ all_the_same TooLarge c.args.recipients.now 100 c.requires
    ∙ sym (ap (λ (k : Kind). too_large k (mailboxes c.args.recipients.now)) c.in-Lmtp.is)
