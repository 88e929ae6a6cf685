-- What the end of a message comes to, in SMTP and in LMTP: the spool, the ledger and the replies.
use Rattle.std.specs.Prelude.{◌≡◌, ℕ, cond, List, ◌++◌, length, None, Ok, Err, Option, Result, nat_le}
use Rattle.refusals.specs.Refusals.{Notice, plain}
use Rattle.spool.specs.Entries.{Entry}
use Rattle.spool.specs.Meanings.{Meaning}
use Rattle.spool.specs.Rules.{opens}
use Rattle.protocol.specs.declared.reply.Reply.{Reply}
use Rattle.protocol.specs.declared.reply.Reply.TheVariants.{Done}
use Rattle.ends.specs.declared.faults.EndFault.{EndFault}
use Rattle.ends.specs.declared.ledger.Ledger.{Ledger}
use Rattle.ends.specs.Faults.{reply_of}
use Rattle.ends.specs.Filing.{accepted, FiledEach, Together, Spoilt}
use Rattle.ends.specs.Ledgers.{counts_of, Counted}

-- An end is refused where the recipients are more than 100 (5), or a lot is open (10), in this order.
abbrev pub starts : ℕ → Option (List Entry) → Result (Unit {0}) Notice
starts recipients l = cond (nat_le recipients 100) (opens l) (Err (plain 5))

-- Whether a call is refused, and how, whatever else it answers.
abbrev pub begun : {T : Type 0} → Result T Notice → Result (Unit {0}) Notice
begun (Ok x) = Ok tt
begun (Err n) = Err n

module _ {S : Type 0} (sp : Meaning S) (l l' : Ledger) (s s' : S) (es : List Entry) where
  -- All entries are filed together, and counted.
  pub record AllFiled : Type 0 where
    pub filing : Together sp (counts_of l) s s' es
    pub holds : sp.held s' ≡ sp.held s ++ es
    pub ended : sp.lot s' ≡ None
    pub counts : Counted l l' es

  -- None is filed, since one has a fault, which is the answer.
  pub record NoneFiled (b : Reply) : Type 0 where
    pub fault : EndFault
    pub says : b ≡ reply_of fault
    pub filing : Spoilt sp (counts_of l) s s' es fault
    pub holds : sp.held s' ≡ sp.held s
    pub ended : sp.lot s' ≡ None
    pub counts : l' ≡ l

  -- An SMTP end: 250 where all entries are filed, and else the first fault.
  pub data SmtpEnd (b : Reply) : Type 0 where
    all_filed : b ≡ Done → AllFiled → SmtpEnd b
    none-filed : NoneFiled b → SmtpEnd b

  -- An LMTP end: each entry is filed or not by itself, and has a reply. Those that were answered 250 are held and counted.
  pub record EachFiled (bs : List Reply) : Type 0 where
    pub filing : FiledEach sp (counts_of l) s es bs s'
    pub one_each : length bs ≡ length es
    pub holds : sp.held s' ≡ sp.held s ++ accepted es bs
    pub ended : sp.lot s' ≡ None
    pub counts : Counted l l' (accepted es bs)
