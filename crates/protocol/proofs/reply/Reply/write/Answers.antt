use Rattle.std.proofs.Common.{◌≡◌, ◌++◌, List, ℕ, codes, decimal, sym, ap, ◌∙◌, append_assoc}
use Rattle.protocol.specs.Outputs.{put}
use Rattle.protocol.specs.Replies.{lead_of, octets_of}
use Rattle.protocol.specs.declared.reply.Reply.TheVariants.{Extensions}
use Rattle.protocol.proofs.reply.Reply.write.Goals as goal

extensions : (name : List ℕ) (size : ℕ) → lead_of Extensions ++ name ++ codes "\r\n250-SIZE " ++ decimal size ++ codes "\r\n250-PIPELINING\r\n250 CHUNKING\r\n" ≡ octets_of name size Extensions
extensions name size = simp append_assoc

pub returns-in-Extensions-clause-after : goal.returns-in-Extensions-clause-after
returns-in-Extensions-clause-after c =
    let name = c.args.name.now in
    let size = c.args.size in
    let digits : c.as_bytes-digits.result.now ≡ decimal size = c.as_bytes-digits.ensures.value ∙ c.format.ensures.text in
    let tail = codes "\r\n250-PIPELINING\r\n250 CHUNKING\r\n" in
    c.put_parts-in-Extensions.ensures.after
    ∙ ap (put c.args.output.now c.args.at)
    (ap (λ t. t ++ name ++ codes "\r\n250-SIZE " ++ c.as_bytes-digits.result.now ++ tail) (c.lead-lead.ensures ∙ ap lead_of c.in-Extensions.is)
    ∙ ap (λ t. lead_of Extensions ++ name ++ codes "\r\n250-SIZE " ++ t ++ tail) digits ∙ extensions name size ∙ ap (octets_of name size) (sym c.in-Extensions.is))
