-- What obeying a command line does to where a conversation stands.
use Rattle.std.proofs.Common.{◌≡◌, ℕ, ◌+◌, ◌%◌, ◌<◌, ◌≤◌, true, ltb, leb, List, [], ◌∷◌, ◌++◌, length, take, set, is_ok, Some, None, Option, Result, sym, refl, ap, ◌∙◌, subst, arith, Ok}
use Rattle.std.proofs.lemmas.List.{length-map, length-take, map_push}
use Rattle.std.proofs.lemmas.Bool.{cond-false, cond-true, le-leb, le-ltb, lt-ltb}
use Rattle.command.specs.declared.argument.RcptLine.{RcptLine}
use Rattle.judgement.specs.Judgements.{Judged}
use Rattle.judgement.specs.declared.judged.Asked.TheVariants as asks
use Rattle.judgement.specs.declared.phase.Phase.{Phase}
use Rattle.judgement.specs.declared.phase.Phase.TheVariants as phase
use Rattle.protocol.specs.declared.reply.Reply.{Reply}
use Rattle.protocol.specs.declared.reply.Reply.TheVariants as reply
use Rattle.refusals.specs.Refusals.{told}
use Rattle.refusals.specs.declared.refusal.Refusal.{Refusal}
use Rattle.spool.specs.Lists.{appended, appends, placed, records}
use Rattle.spool.specs.declared.list.OrderedList.{OrderedList}
use Rattle.spool.proofs.Owned.{told_ok}
use Rattle.session.specs.Standings.{Standing, Answer, after_reset, answer, commands, enrolled, heeded, idle, most, moved, recipient}
use Rattle.session.specs.Turns.{Enrols, cleared, nobody, somebody}
use Rattle.session.specs.Places.{Obeyed, Ready, Started, for_line, for_none, mailboxes, standing_of}
use Rattle.session.specs.declared.session.Mode.{Mode}
use Rattle.session.specs.declared.session.Mode.TheVariants as mode
use Rattle.session.specs.declared.session.Session.{Session}

pub standing_same : (a a' : Phase) (b b' c c' : List ℕ) → a ≡ a' → b ≡ b' → c ≡ c' → ◌≡◌ {A = Standing} (record { phase = a; recipients = b; payload = c }) (record { phase = a'; recipients = b'; payload = c' })
standing_same a a' b b' c c' p q r = cc

pub idle_is : (x : Session) (area sheet : List ℕ) (p : Phase) → x.phase ≡ p → x.recipients.count ≡ 0 → x.kept ≡ 0 → standing_of x area sheet ≡ idle p
idle_is x area sheet p e n k = standing_same _ _ _ _ _ _ e (ap (λ (m : ℕ). mailboxes (take m sheet)) n) (ap (λ (m : ℕ). take m area) k)

-- The transaction is dropped.
pub obeyed_start : (x x' : Session) (sheet : List ℕ) (asked : Option ℕ) (j k : Judged) (r q : Reply) (p : Phase) → j ≡ k → r ≡ q → Started x x' p → commands p ≡ true → ((area : List ℕ) → heeded (λ _. asked) (standing_of x area sheet) k ≡ Some (answer q (idle p))) → Obeyed x x' sheet sheet asked j r
obeyed_start x x' sheet asked j k r q p i u s w h =
    let idles : (area : List ℕ) → standing_of x' area sheet ≡ idle p = λ area. idle_is x' area sheet p s.phase s.recipients s.kept in
    record {
      heeds = λ area. ap (heeded (λ _. asked) (standing_of x area sheet)) i ∙ h area ∙ ap (λ (st : Standing). Some (answer q st)) (sym (idles area)) ∙ ap (λ (y : Reply). Some (answer y (standing_of x' area sheet))) (sym u);
      enrols = λ area. cleared (ap (λ (st : Standing). st.recipients) (idles area));
      kind = s.kind;
      line = s.line;
      few = λ _. omega (arith, s.recipients);
      kept = omega (arith, s.kept);
      ready = λ _ m.
          let P : Mode → Type 0 = λ y. Ready x'.phase y in
          let Q : Phase → Type 0 = λ y. Ready y mode.Line in
          subst P (sym (s.mode ∙ m)) (subst Q (sym s.phase) (for_line w));
    }

-- The phase alone alters, and with it what the next octets are of.
pub obeyed_moved : (x : Session) (sheet : List ℕ) (asked : Option ℕ) (j k : Judged) (r : Reply) (p : Phase) (m : Mode) → j ≡ k → (x.mode ≡ mode.Line → commands x.phase ≡ true → Ready p m) → ((area : List ℕ) → heeded (λ _. asked) (standing_of x area sheet) k ≡ Some (answer r (moved (standing_of x area sheet) p))) → Obeyed x (record { kind = x.kind; phase = p; mode = m; line = x.line; recipients = x.recipients; kept = x.kept }) sheet sheet asked j r
obeyed_moved x sheet asked j k r p m i w h = record {
  heeds = λ area. ap (heeded (λ _. asked) (standing_of x area sheet)) i ∙ h area;
  enrols = λ area. nobody refl;
  kind = refl;
  line = refl;
  few = λ l. l;
  kept = omega arith;
  ready = λ c q. w q c;
}

-- The transaction stays as it was.
pub obeyed_still : (x : Session) (sheet : List ℕ) (asked : Option ℕ) (j k : Judged) (r : Reply) → j ≡ k → ((area : List ℕ) → heeded (λ _. asked) (standing_of x area sheet) k ≡ Some (answer r (standing_of x area sheet))) → Obeyed x x sheet sheet asked j r
obeyed_still x sheet asked j k r i h = obeyed_moved x sheet asked j k r x.phase x.mode i (λ m w. let P : Mode → Type 0 = λ y. Ready x.phase y in subst P (sym m) (for_line w)) h

-- The conversation ends.
pub obeyed_end : (x x' : Session) (sheet : List ℕ) (asked : Option ℕ) (j k : Judged) (r q : Reply) → j ≡ k → r ≡ q → x' ≡ record { kind = x.kind; phase = phase.Ended; mode = x.mode; line = x.line; recipients = x.recipients; kept = x.kept } → ((area : List ℕ) → heeded (λ _. asked) (standing_of x area sheet) k ≡ Some (answer q (moved (standing_of x area sheet) phase.Ended))) → Obeyed x x' sheet sheet asked j r
obeyed_end x x' sheet asked j k r q i u e h =
    let P : Session → Type 0 = λ y. Obeyed x y sheet sheet asked j r in
    let Q : Reply → Type 0 = λ y. Obeyed x (record { kind = x.kind; phase = phase.Ended; mode = x.mode; line = x.line; recipients = x.recipients; kept = x.kept }) sheet sheet asked j y in
    let R : Mode → Type 0 = λ y. Ready phase.Ended y in
    subst P (sym e) (subst Q (sym u) (obeyed_moved x sheet asked j k q phase.Ended x.mode i (λ m _. subst R (sym m) for_none) h))

-- A recipient.
module _ (x : Session) (sheet : List ℕ) (asked : Option ℕ) (line : RcptLine) where
  few_is : (area : List ℕ) → length (standing_of x area sheet).recipients ≡ length (records x.recipients sheet)
  few_is area = length-map (records x.recipients sheet) (λ r. r % 64)

  pub obeyed_many : most ≤ length (records x.recipients sheet) → Obeyed x x sheet sheet asked (Ok (asks.Rcpt line)) reply.TooManyRecipients
  obeyed_many h = obeyed_still x sheet asked (Ok (asks.Rcpt line)) (Ok (asks.Rcpt line)) reply.TooManyRecipients refl (λ area.
      ap (λ (a : Answer). Some a) (cond-false (ltb (length (standing_of x area sheet).recipients) most) _ _ (le-ltb _ _ (omega (arith, few_is area)))))

  room_is : (area : List ℕ) → length (records x.recipients sheet) < most → recipient (standing_of x area sheet) asked ≡ enrolled (standing_of x area sheet) asked
  room_is area h = cond-true (ltb (length (standing_of x area sheet).recipients) most) _ _ (lt-ltb _ _ (omega (arith, few_is area)))

  pub obeyed_nobody : length (records x.recipients sheet) < most → asked ≡ None → Obeyed x x sheet sheet asked (Ok (asks.Rcpt line)) reply.NoSuchMailbox
  obeyed_nobody h n = obeyed_still x sheet asked (Ok (asks.Rcpt line)) (Ok (asks.Rcpt line)) reply.NoSuchMailbox refl (λ area.
      ap (λ (a : Answer). Some a) (room_is area h ∙ ap (enrolled (standing_of x area sheet)) n))

  pub obeyed_somebody : (m : ℕ) (l : OrderedList) (sheet' : List ℕ) (r : Result (Unit {0}) Refusal) → length (records x.recipients sheet) < most → asked ≡ Some m → m < 64 → length sheet ≡ most → length sheet' ≡ length sheet →
      told r ≡ appends (length sheet) (records x.recipients sheet) (m ∷ []) →
      records l sheet' ≡ appended (length sheet) (records x.recipients sheet) (m ∷ []) →
      (is_ok r ≡ true → l.count ≡ length (records l sheet')) →
      sheet' ≡ placed sheet (records x.recipients sheet) m →
      Obeyed x (record { kind = x.kind; phase = phase.Rcpt; mode = x.mode; line = x.line; recipients = l; kept = x.kept }) sheet sheet' asked (Ok (asks.Rcpt line)) reply.Done
  obeyed_somebody m l sheet' r h n lt long same-long answers after counts places =
      let rs = records x.recipients sheet in
      let fits : leb (length rs + 1) (length sheet) ≡ true = le-leb _ _ (omega arith) in
      let grown : records l sheet' ≡ rs ++ m ∷ [] = after ∙ cond-true (leb (length rs + 1) (length sheet)) _ _ fits in
      let done : is_ok r ≡ true = told_ok r tt (answers ∙ cond-true (leb (length rs + 1) (length sheet)) _ _ fits) in
      let small : m % 64 ≡ m = omega arith in
      let boxes : mailboxes (records l sheet') ≡ mailboxes rs ++ m ∷ [] = ap mailboxes grown ∙ map_push (λ r. r % 64) rs m ∙ ap (λ (k : ℕ). mailboxes rs ++ k ∷ []) small in
      record {
        heeds = λ area.
            ap (λ (a : Answer). Some a) (room_is area h ∙ ap (enrolled (standing_of x area sheet)) n
            ∙ ap (λ (b : List ℕ). answer reply.Done (record { phase = phase.Rcpt; recipients = b; payload = take x.kept area })) (sym boxes));
        enrols = λ area.
            let P : List ℕ → Type 0 = λ z. Enrols (standing_of x area sheet) (record { phase = phase.Rcpt; recipients = mailboxes (records l sheet'); payload = take x.kept area }) sheet z in
            subst P (ap (λ (k : ℕ). set sheet k m) (few_is area) ∙ sym (places ∙ cond-true (leb (length rs + 1) (length sheet)) _ _ fits))
            (somebody m (boxes ∙ ap (λ (k : ℕ). mailboxes rs ++ k ∷ []) (sym small)));
        kind = refl;
        line = refl;
        few = λ _. omega (arith, counts done, length-take l.count sheet');
        kept = omega arith;
        ready = λ w q. let P : Mode → Type 0 = λ y. Ready phase.Rcpt y in subst P (sym q) (for_line refl);
      }

pub resets : (p : Phase) → commands (after_reset p) ≡ true
resets phase.Fresh = refl
resets phase.Greeted = refl
resets phase.Mail = refl
resets phase.Rcpt = refl
resets phase.Data = refl
resets phase.Chunks = refl
resets phase.Spoiled = refl
resets phase.Ended = refl
