use Rattle.std.proofs.Common.{rules, ◌≡◌, ◌∙◌, ap}
use borrow.Author.Tests.{tests}
use Rattle.std.specs.Option.{option_map}
use Rattle.std.proofs.lemmas.Iterator.{YieldsList-from_slice}
use Rattle.std.proofs.lemmas.Iterator.Search.{find_from_yields_List}
use Rattle.directory.specs.Rows.{octets_of}
use Rattle.directory.specs.declared.row.DirectoryRow.{DirectoryRow}
use Rattle.directory.proofs.Listed.{first_found}
use Rattle.directory.proofs.listing.ListingDirectory.mailbox.Goals as goal

pub returns : goal.returns
returns g c =
    let text = c.args.self.now.text.items in
    let rows = c.args.self.now.rows.items in
    let fits = g.S.Spelling.fitting in
    let f = find_from_yields_List (λ row. fits (octets_of text row) c.args.local.now c.args.domain.now) _ _ c.find.result c.find.ensures.ran (YieldsList-from_slice rows cc) (λ x b q k. search (rules, tests)) in
    let m : c.map.result ≡ option_map (λ (row : DirectoryRow). row.mailbox) (option_map (λ x. x.now) c.find.result) = search rules in
    m ∙ ap (option_map (λ (row : DirectoryRow). row.mailbox)) f ∙ first_found fits text rows c.args.local.now c.args.domain.now
