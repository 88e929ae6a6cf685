-- The ledger: for each of 64 mailboxes, how many entries were filed and how many were collected.
use Rattle.std.specs.Prelude.{◌≡◌, ℕ, ◌+◌, ◌<◌, min, cond, List, [], ◌∷◌, map, Ok, Err, Result, ◌==◌, nat_lt, slice_index_or, slice_set}
use Rattle.refusals.specs.Refusals.{Notice, plain}
use Rattle.spool.specs.Entries.{Entry}
use Rattle.ends.specs.declared.ledger.Counts.{Counts}
use Rattle.ends.specs.declared.ledger.Ledger.{Ledger}

-- A mailbox that has been filed more than this is filed no more.
abbrev pub most : ℕ
most = 999999899

-- What was counted for a mailbox.
abbrev pub nothing : Counts
nothing = record { filed = 0; collected = 0 }

abbrev pub counted : Ledger → ℕ → Counts
counted l m = slice_index_or l.counts m nothing

-- The filed count of each mailbox.
abbrev pub counts_of : Ledger → ℕ → ℕ
counts_of l m = (counted l m).filed

-- What was filed, and what was collected, mailbox by mailbox.
abbrev pub filings_of : Ledger → List ℕ
filings_of l = map (λ c. c.filed) l.counts

abbrev pub collections_of : Ledger → List ℕ
collections_of l = map (λ c. c.collected) l.counts

-- How many entries are for a mailbox.
abbrev pub count : ℕ → List Entry → ℕ
count m [] = 0
count m (e ∷ es) = cond (e.mailbox == m) 1 0 + count m es

-- The ledger counts these entries as filed, and nothing else.
pub record Counted (l l' : Ledger) (es : List Entry) : Type 0 where
  pub filings : (m : ℕ) → m < 64 → counts_of l' m ≡ counts_of l m + count m es
  pub collections : collections_of l' ≡ collections_of l

-- What a question for the counts of a mailbox answers: refused (7) where there is no such mailbox.
abbrev pub tells_counts : Ledger → ℕ → Result Counts Notice
tells_counts l m = cond (nat_lt m 64) (Ok (counted l m)) (Err (plain 7))

-- A collection adds one to the mailbox's count, up to 999,999,999, and alters nothing else; nothing where there is no such
-- mailbox.
abbrev pub most_collected : ℕ
most_collected = 999999999

abbrev pub once_more : Counts → Counts
once_more c = record { filed = c.filed; collected = min (c.collected + 1) most_collected }

abbrev pub after_collection : Ledger → ℕ → Ledger
after_collection l m = cond (nat_lt m 64) (record { counts = slice_set l.counts m (once_more (counted l m)) }) l

pub record Collected (l l' : Ledger) (m : ℕ) : Type 0 where
  pub filings : filings_of l' ≡ filings_of l
  pub collections : (k : ℕ) → k < 64 → (counted l' k).collected ≡ cond (k == m) (min ((counted l k).collected + 1) most_collected) (counted l k).collected
