-- The relations depend on the filed counts of the mailboxes below 64 alone: they carry over from one reckoning of the counts
-- to another that agrees with it there.
use Rattle.std.proofs.Common.{◌≡◌, ℕ, ◌<◌, ◌≤◌, List, [], ◌∷◌, ◌++◌, map, subst, arith}
use Rattle.std.specs.List.{AllByRecursion}
use Rattle.spool.specs.Entries.{Entry}
use Rattle.spool.specs.Meanings.{Meaning}
use Rattle.protocol.specs.declared.reply.Reply.{Reply}
use Rattle.ends.specs.declared.faults.EndFault.{EndFault}
use Rattle.ends.specs.declared.faults.EndFault.TheVariants.{Room, Ledger}
use Rattle.ends.specs.Ledgers.{most}
use Rattle.ends.specs.Filing.{entry, Answered, answered-filed, answered_turned, answered-ledger, FiledEach, StagedAll, Why, FirstFault, Together, Spoilt}

-- An entry for a mailbox that there is.
abbrev pub There : Entry → Type 0
There e = e.mailbox < 64

pub entries_there : (p rs : List ℕ) → AllByRecursion There (map (entry p) rs)
entries_there p [] = tt
entries_there p (r ∷ rs) = (omega arith, entries_there p rs)

front_there : (es : List Entry) (e : Entry) (fs : List Entry) → AllByRecursion There (es ++ e ∷ fs) → AllByRecursion There es
front_there [] e fs h = tt
front_there (x ∷ es) e fs h = (h.0, front_there es e fs h.1)

next_there : (es : List Entry) (e : Entry) (fs : List Entry) → AllByRecursion There (es ++ e ∷ fs) → There e
next_there [] e fs h = h.0
next_there (x ∷ es) e fs h = next_there es e fs h.1

module _ {S : Type 0} (sp : Meaning S) (c d : ℕ → ℕ) (same : (m : ℕ) → m < 64 → c m ≡ d m) where
  pub answered-carries : (s s' : S) (e : Entry) (b : Reply) → There e → Answered sp c s e b s' → Answered sp d s e b s'
  answered-carries s s' e b t (answered-filed q n a) = answered-filed q (subst (λ (x : ℕ). x ≤ most) (same e.mailbox t) n) a
  answered-carries s s' e b t (answered_turned f q n a) = answered_turned f q (subst (λ (x : ℕ). x ≤ most) (same e.mailbox t) n) a
  answered-carries s s' e b t (answered-ledger q n a) = answered-ledger q (subst (λ (x : ℕ). most < x) (same e.mailbox t) n) a

  pub each-carries : (s s' : S) (es : List Entry) (bs : List Reply) → AllByRecursion There es → FiledEach sp c s es bs s' → FiledEach sp d s es bs s'
  each-carries s s' [] [] t h = h
  each-carries s s' [] (b ∷ bs) t h = h
  each-carries s s' (e ∷ es) [] t h = h
  each-carries s s' (e ∷ es) (b ∷ bs) t h =
      (h.0, (answered-carries s h.0 e b t.0 h.1.0, each-carries h.0 s' es bs t.1 h.1.1))

  pub staged-carries : (s s' : S) (es : List Entry) → AllByRecursion There es → StagedAll sp c s es s' → StagedAll sp d s es s'
  staged-carries s s' [] t h = h
  staged-carries s s' (e ∷ es) t h =
      (subst (λ (x : ℕ). x ≤ most) (same e.mailbox t.0) h.0, (h.1.0, (h.1.1.0, staged-carries h.1.0 s' es t.1 h.1.1.1)))

  why-carries : (s : S) (e : Entry) (f : EndFault) → There e → Why sp c s e f → Why sp d s e f
  why-carries s e (Room f) t h = (subst (λ (x : ℕ). x ≤ most) (same e.mailbox t) h.0, h.1)
  why-carries s e Ledger t h = subst (λ (x : ℕ). most < x) (same e.mailbox t) h

  pub fault-carries : (s s' : S) (es : List Entry) (f : EndFault) → AllByRecursion There es → FirstFault sp c s s' es f → FirstFault sp d s s' es f
  fault-carries s s' es f t h =
      let u : AllByRecursion There (h.front ++ h.next ∷ h.rest) = subst (AllByRecursion There) h.cut t in
      record {
        front = h.front;
        next = h.next;
        rest = h.rest;
        cut = h.cut;
        before = staged-carries s s' h.front (front_there h.front h.next h.rest u) h.before;
        why = why-carries s' h.next f (next_there h.front h.next h.rest u) h.why;
      }

  pub together_carries : (s s' : S) (es : List Entry) → AllByRecursion There es → Together sp c s s' es → Together sp d s s' es
  together_carries s s' es t h = record {
    open_at = h.open_at;
    full_at = h.full_at;
    opens = h.opens;
    stages = staged-carries h.open_at h.full_at es t h.stages;
    commits = h.commits;
  }

  pub spoilt_carries : (s s' : S) (es : List Entry) (f : EndFault) → AllByRecursion There es → Spoilt sp c s s' es f → Spoilt sp d s s' es f
  spoilt_carries s s' es f t h = record {
    open_at = h.open_at;
    full_at = h.full_at;
    opens = h.opens;
    stages = fault-carries h.open_at h.full_at es f t h.stages;
    withdraws = h.withdraws;
  }
