-- How the outcome of a turn is settled.
use Rattle.std.proofs.Common.{◌≡◌, ℕ, zero, suc, ◌%◌, ◌<◌, ◌≤◌, List, [], ◌∷◌, map, length, take, replicate, Some, None, sym, refl, ap, ◌∙◌, subst, arith}
use Rattle.std.proofs.lemmas.List.{append-nil}
use Rattle.ends.specs.Ends.{SmtpEnd, all_filed, none-filed}
use Rattle.ends.specs.Filing.{entry}
use Rattle.ends.specs.Ledgers.{Counted, counts_of}
use Rattle.ends.specs.declared.ledger.Ledger.{Ledger}
use Rattle.ends.proofs.Carrying.{each-carries, entries_there, spoilt_carries, together_carries}
use Rattle.judgement.specs.declared.phase.Kind.{Kind}
use Rattle.judgement.specs.declared.phase.Kind.TheVariants.{Smtp, Lmtp}
use Rattle.protocol.specs.declared.reply.Reply.{Reply}
use Rattle.session.specs.Places.{mailboxes}
use Rattle.session.specs.Queues.{waits}
use Rattle.session.specs.Turns.{Outcome, answered, ends}
use Rattle.session.specs.declared.waiting.Waiting.{Waiting}
use Rattle.spool.specs.Entries.{Entry}
use Rattle.spool.specs.Meanings.{Meaning}
use Rattle.receiver.specs.Ending.{Ended, Settled}
use Rattle.receiver.specs.Settling as settling
use Rattle.receiver.specs.Settling.{Files, FilesAll, FilesEach, Replies, Settles, too_large}

pub counted_none : (l : Ledger) → Counted l l []
counted_none l = record { filings = λ m lt. omega arith; collections = refl }

-- A record and its mailbox stand for the same pair.
pub entries_same : (p rs : List ℕ) → map (entry p) (mailboxes rs) ≡ map (entry p) rs
entries_same p [] = refl
entries_same p (r ∷ rs) =
    let e : (r % 64) % 64 ≡ r % 64 = omega arith in
    let h : entry p (r % 64) ≡ entry p r = ap (λ (n : ℕ). record { mailbox = n; payload = p }) e in
    let t : map (entry p) (mailboxes rs) ≡ map (entry p) rs = entries_same p rs in
    cc

pub all_the_same : (x : Reply) (rs : List ℕ) (k : ℕ) → length rs ≤ k → take (length rs) (replicate k x) ≡ map (λ _. x) (mailboxes rs)
all_the_same x [] k h = refl
all_the_same x (r ∷ rs) zero h = absurd (omega arith)
all_the_same x (r ∷ rs) (suc k) h = ap (λ (xs : List Reply). x ∷ xs) (all_the_same x rs k (omega arith))

module _ {S : Type 0} (sp : Meaning S) (l l' : Ledger) (s s' : S) where
  pub smtp_ended : (rs p : List ℕ) (b : Reply) (w : Waiting) → SmtpEnd sp l l' s s' (map (entry p) rs) b → waits w ≡ b ∷ [] → Ended sp Smtp l l' s s' rs p w
  smtp_ended rs p b w (all_filed e f) ww =
      let es = map (entry p) rs in
      let P : List Reply → Type 0 = λ v. FilesAll sp (counts_of l) s s' es v es in
      record {
        filed = es;
        files = subst P (sym (ww ∙ ap (λ (x : Reply). x ∷ []) e)) (settling.all_filed f.filing);
        holds = f.holds;
        idle = f.ended;
        counts = f.counts;
      }
  smtp_ended rs p b w (none-filed f) ww =
      let es = map (entry p) rs in
      let P : List Reply → Type 0 = λ v. FilesAll sp (counts_of l) s s' es v [] in
      let C : Ledger → Type 0 = λ v. Counted l v [] in
      record {
        filed = [];
        files = subst P (sym (ww ∙ ap (λ (x : Reply). x ∷ []) f.says)) (settling.none-filed f.fault f.filing);
        holds = f.holds ∙ sym (append-nil (sp.held s));
        idle = f.ended;
        counts = subst C (sym f.counts) (counted_none l);
      }

  pub settled_ended : (kind : Kind) (rs p q : List ℕ) (w : Waiting) → q ≡ p → Ended sp kind l l' s s' rs q w → Settled sp kind l l' s s' (ends (mailboxes rs) (Some p)) w
  settled_ended kind rs p q w e d =
      let F : List Entry → Type 0 = λ es. Files sp (counts_of l) s s' kind es (waits w) d.filed in
      record {
        filed = d.filed;
        settles = subst F (ap (λ (v : List ℕ). map (entry v) rs) e ∙ sym (entries_same p rs)) d.files;
        holds = d.holds;
        idle = d.idle;
        counts = d.counts;
      }

-- Nothing is filed.
module _ {S : Type 0} (sp : Meaning S) (l : Ledger) (s : S) where
  pub settled_large : (kind : Kind) (rs : List ℕ) (w : Waiting) → sp.lot s ≡ None → waits w ≡ too_large kind rs → Settled sp kind l l s s (ends rs None) w
  settled_large kind rs w i e = record { filed = []; settles = record { says = e; none = refl; same = refl }; holds = sym (append-nil (sp.held s)); idle = i; counts = counted_none l }

  pub settled_answer : (kind : Kind) (r : Reply) (w : Waiting) → sp.lot s ≡ None → waits w ≡ r ∷ [] → Settled sp kind l l s s (answered r) w
  settled_answer kind r w i e = record { filed = []; settles = record { says = e; none = refl; same = refl }; holds = sym (append-nil (sp.held s)); idle = i; counts = counted_none l }

-- The counts of the ledger and those of a tally that agree below 64 settle alike.
module _ {S : Type 0} (sp : Meaning S) (c d : ℕ → ℕ) (same : (m : ℕ) → m < 64 → c m ≡ d m) (s s' : S) where
  files_carry : (kind : Kind) (p rs : List ℕ) (bs : List Reply) (fs : List Entry) → Files sp c s s' kind (map (entry p) rs) bs fs → Files sp d s s' kind (map (entry p) rs) bs fs
  files_carry Smtp p rs bs fs (settling.all_filed t) = settling.all_filed (together_carries sp c d same s s' (map (entry p) rs) (entries_there p rs) t)
  files_carry Smtp p rs bs fs (settling.none-filed f t) = settling.none-filed f (spoilt_carries sp c d same s s' (map (entry p) rs) f (entries_there p rs) t)
  files_carry Lmtp p rs bs fs h = record { each = each-carries sp c d same s s' (map (entry p) rs) bs (entries_there p rs) h.each; those = h.those }

  pub settles_carry : (kind : Kind) (o : Outcome) (bs : List Reply) (fs : List Entry) → Settles sp c s s' kind o bs fs → Settles sp d s s' kind o bs fs
  settles_carry kind (answered r) bs fs h = record { says = h.says; none = h.none; same = h.same }
  settles_carry kind (ends rs None) bs fs h = record { says = h.says; none = h.none; same = h.same }
  settles_carry kind (ends rs (Some p)) bs fs h = files_carry kind p rs bs fs h
