-- How a refusal reads to a person.
use Rattle.std.specs.Prelude.{ℕ, List, ◌++◌, codes, decimal}
use Rattle.refusals.specs.Causes.{cause_number}
use Rattle.refusals.specs.declared.refusal.Refusal.{Refusal}
use Rattle.refusals.specs.declared.refusal.Refusal.TheVariants.{NoSuchSession, AlreadyOpen, NotOpen, BadArea, BadSheet, ShortOutput, NoSuchMailbox, NothingHeld, ShortBuffer, LotOpen, NoLot, NoRoom, NoSuchEntry, Unlawful, BadRow, BadRowMailbox}

abbrev pub sentence : Refusal → List ℕ
sentence NoSuchSession = codes "there is no such session: sessions are 0 to 7"
sentence AlreadyOpen = codes "the session is already open"
sentence NotOpen = codes "the session is not open"
sentence BadArea = codes "the area must have 512 to 65536 octets, and the same number at each feed"
sentence BadSheet = codes "the sheet must have 100 records"
sentence ShortOutput = codes "the output must have at least 256 octets"
sentence NoSuchMailbox = codes "there is no such mailbox: mailboxes are 0 to 63"
sentence NothingHeld = codes "nothing is held for the mailbox"
sentence ShortBuffer = codes "the buffer is shorter than the payload"
sentence LotOpen = codes "a lot is open"
sentence NoLot = codes "no lot is open"
sentence (NoRoom f) = codes "there is no room: layer " ++ (decimal f.layer ++ (codes ", cause " ++ decimal (cause_number f.cause)))
sentence NoSuchEntry = codes "there is no such entry or record"
sentence Unlawful = codes "the build breaks a limit, or stands on a spool in use"
sentence BadRow = codes "a directory row lies outside the text or is misspelt"
sentence BadRowMailbox = codes "a directory row names a mailbox above 63"
