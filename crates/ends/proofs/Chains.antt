-- How the relations of the ends grow by one entry, and what they come to.
use Rattle.std.proofs.Common.{◌≡◌, ℕ, zero, suc, ◌+◌, ◌%◌, ◌<◌, ◌≤◌, Bool, true, false, cond, eqb, List, [], ◌∷◌, ◌++◌, map, length, get_or, take, drop, Some, None, Option, sym, refl, ap, ◌∙◌, subst, append_assoc, arith, length-append}
use Rattle.std.proofs.lemmas.List.{append-nil, map-append, take-append-drop, drop_more, length_push}
use Rattle.spool.specs.Entries.{Entry}
use Rattle.spool.specs.Meanings.{Meaning}
use Rattle.spool.specs.Rules.{staged}
use Rattle.filing.specs.Lots.{Staged}
use Rattle.protocol.specs.Replies.{code_of}
use Rattle.protocol.specs.declared.reply.Reply.{Reply}
use Rattle.ends.specs.declared.faults.EndFault.{EndFault}
use Rattle.ends.specs.declared.ledger.Ledger.{Ledger}
use Rattle.ends.specs.Faults.{reply_of}
use Rattle.ends.specs.Ledgers.{most, counts_of, Counted}
use Rattle.ends.specs.Filing.{entry, kept, accepted, Answered, answered-filed, answered_turned, answered-ledger, FiledEach, StagedAll, Why, FirstFault, Together, Spoilt}
use Rattle.ends.specs.Ends.{AllFiled, NoneFiled, EachFiled}
use Rattle.ends.proofs.Counting.{count_most, counted_none, counted_more, entries_more}

kept_by : (e : Entry) (b c : Reply) → b ≡ c → kept e c ≡ kept e b
kept_by e b c q = ap (kept e) (sym q)

kept_most : (e : Entry) (b : Reply) → length (kept e b) ≤ 1
kept_most e b = at (eqb (code_of b) 250)
  where
    at : (t : Bool) → length (cond t (e ∷ []) []) ≤ 1
    at true = omega arith
    at false = omega arith

module _ {S : Type 0} (sp : Meaning S) (counts : ℕ → ℕ) where
  pub answered_held : (s s' : S) (e : Entry) (b : Reply) → Answered sp counts s e b s' → sp.held s' ≡ sp.held s ++ kept e b
  answered_held s s' e b (answered-filed q n a) =
      let l : staged (sp.lot a.open_at) ≡ [] = ap staged a.opens.begun in
      let g : staged (sp.lot a.full_at) ≡ e ∷ [] = ap staged a.stages.grows ∙ ap (λ (x : List Entry). x ++ e ∷ []) l in
      a.commits.files ∙ ap (λ (x : List Entry). sp.held a.full_at ++ x) g
      ∙ ap (λ (x : List Entry). x ++ e ∷ []) (a.stages.keeps ∙ a.opens.keeps)
      ∙ ap (λ (x : List Entry). sp.held s ++ x) (kept_by e b _ q)
  answered_held s s' e b (answered_turned f q n a) =
      a.withdraws.keeps ∙ a.opens.keeps ∙ sym (append-nil (sp.held s)) ∙ ap (λ (x : List Entry). sp.held s ++ x) (kept_by e b _ q)
  answered_held s s' e b (answered-ledger q n a) = ap sp.held a ∙ sym (append-nil (sp.held s)) ∙ ap (λ (x : List Entry). sp.held s ++ x) (kept_by e b _ q)

  pub answered_lot : (s s' : S) (e : Entry) (b : Reply) → sp.lot s ≡ None → Answered sp counts s e b s' → sp.lot s' ≡ None
  answered_lot s s' e b n (answered-filed q m a) = a.commits.ended
  answered_lot s s' e b n (answered_turned f q m a) = a.withdraws.ended
  answered_lot s s' e b n (answered-ledger q m a) = ap sp.lot a ∙ n

  each_push : (s a s' : S) (es : List Entry) (bs : List Reply) (e : Entry) (b : Reply) → FiledEach sp counts s es bs a → Answered sp counts a e b s' → FiledEach sp counts s (es ++ e ∷ []) (bs ++ b ∷ []) s'
  each_push s a s' [] [] e b h k = (s', (subst (λ (x : S). Answered sp counts x e b s') h k, refl))
  each_push s a s' [] (c ∷ bs) e b h k = absurd h
  each_push s a s' (d ∷ es) [] e b h k = absurd h
  each_push s a s' (d ∷ es) (c ∷ bs) e b h k = (h.0, (h.1.0, each_push h.0 a s' es bs e b h.1.1 k))

  accepted_push : (s a : S) (es : List Entry) (bs : List Reply) (e : Entry) (b : Reply) → FiledEach sp counts s es bs a → accepted (es ++ e ∷ []) (bs ++ b ∷ []) ≡ accepted es bs ++ kept e b
  accepted_push s a [] [] e b h = append-nil (kept e b)
  accepted_push s a [] (c ∷ bs) e b h = absurd h
  accepted_push s a (d ∷ es) [] e b h = absurd h
  accepted_push s a (d ∷ es) (c ∷ bs) e b h =
      ap (λ (x : List Entry). kept d c ++ x) (accepted_push h.0 a es bs e b h.1.1) ∙ sym (append_assoc (kept d c) (accepted es bs) (kept e b))

  accepted_most : (s a : S) (es : List Entry) (bs : List Reply) → FiledEach sp counts s es bs a → length (accepted es bs) ≤ length es
  accepted_most s a [] [] h = omega arith
  accepted_most s a [] (c ∷ bs) h = absurd h
  accepted_most s a (d ∷ es) [] h = absurd h
  accepted_most s a (d ∷ es) (c ∷ bs) h =
      omega (arith, accepted_most h.0 a es bs h.1.1, kept_most d c, length-append (kept d c) (accepted es bs))

  staged_push : (s a s' : S) (es : List Entry) (e : Entry) → StagedAll sp counts s es a → counts e.mailbox ≤ most → Staged sp a s' e → StagedAll sp counts s (es ++ e ∷ []) s'
  staged_push s a s' [] e h j k = (j, (s', (subst (λ (x : S). Staged sp x s' e) h k, refl)))
  staged_push s a s' (d ∷ es) e h j k = (h.0, (h.1.0, (h.1.1.0, staged_push h.1.0 a s' es e h.1.1.1 j k)))

  -- One recipient more is staged.
  pub staged_more : (s a s' : S) (p rs : List ℕ) (i : ℕ) → i < length rs → StagedAll sp counts s (map (entry p) (take i rs)) a → counts (get_or rs i 0 % 64) ≤ most → Staged sp a s' (entry p (get_or rs i 0)) → StagedAll sp counts s (map (entry p) (take (i + 1) rs)) s'
  staged_more s a s' p rs i n h j k =
      subst (λ (x : List Entry). StagedAll sp counts s x s') (sym (entries_more p rs i n)) (staged_push s a s' (map (entry p) (take i rs)) (entry p (get_or rs i 0)) h j k)

  -- One recipient is not.
  pub first-fault : (s s' : S) (p rs : List ℕ) (i : ℕ) (f : EndFault) → i < length rs → StagedAll sp counts s (map (entry p) (take i rs)) s' → Why sp counts s' (entry p (get_or rs i 0)) f → FirstFault sp counts s s' (map (entry p) rs) f
  first-fault s s' p rs i f n h w = record {
    front = map (entry p) (take i rs);
    next = entry p (get_or rs i 0);
    rest = map (entry p) (drop (i + 1) rs);
    cut = ap (map (entry p)) (sym (take-append-drop i rs) ∙ ap (λ (x : List ℕ). take i rs ++ x) (drop_more rs i 0 n)) ∙ map-append (entry p) (take i rs) (get_or rs i 0 ∷ drop (i + 1) rs);
    before = h;
    why = w;
  }

  staged_lot : (s s' : S) (xs es : List Entry) → sp.lot s ≡ Some xs → StagedAll sp counts s es s' → sp.lot s' ≡ Some (xs ++ es)
  staged_lot s s' xs [] l h = ap sp.lot h ∙ l ∙ ap (λ (x : List Entry). Some x) (sym (append-nil xs))
  staged_lot s s' xs (e ∷ es) l h =
      let mid = h.1.0 in
      let g : sp.lot mid ≡ Some (xs ++ e ∷ []) = h.1.1.0.grows ∙ ap (λ (x : Option (List Entry)). Some (staged x ++ e ∷ [])) l in
      staged_lot mid s' (xs ++ e ∷ []) es g h.1.1.1 ∙ ap (λ (x : List Entry). Some x) (append_assoc xs (e ∷ []) es)

  staged_held : (s s' : S) (es : List Entry) → StagedAll sp counts s es s' → sp.held s' ≡ sp.held s
  staged_held s s' [] h = ap sp.held h
  staged_held s s' (e ∷ es) h = staged_held h.1.0 s' es h.1.1.1 ∙ h.1.1.0.keeps

  -- What was staged is for mailboxes that may be filed more.
  pub staged_admits : (s s' : S) (p rs : List ℕ) → StagedAll sp counts s (map (entry p) rs) s' → (k : ℕ) → k < length rs → counts (get_or rs k 0 % 64) ≤ most
  staged_admits s s' p [] h k n = absurd (omega arith)
  staged_admits s s' p (r ∷ rs) h zero n = h.0
  staged_admits s s' p (r ∷ rs) h (suc k) n = staged_admits h.1.0 s' p rs h.1.1.1 k (omega arith)

  -- What follows where all are filed together, and where one fault spoils all.
  pub together_held : (s s' : S) (es : List Entry) → Together sp counts s s' es → sp.held s' ≡ sp.held s ++ es
  together_held s s' es t =
      let g : staged (sp.lot t.full_at) ≡ es = ap staged (staged_lot t.open_at t.full_at [] es t.opens.begun t.stages) in
      t.commits.files ∙ ap (λ (x : List Entry). sp.held t.full_at ++ x) g
      ∙ ap (λ (x : List Entry). x ++ es) (staged_held t.open_at t.full_at es t.stages ∙ t.opens.keeps)

  pub spoilt_held : (s s' : S) (es : List Entry) (f : EndFault) → Spoilt sp counts s s' es f → sp.held s' ≡ sp.held s
  spoilt_held s s' es f t =
      t.withdraws.keeps ∙ staged_held t.open_at t.full_at t.stages.front t.stages.before ∙ t.opens.keeps

module _ {S : Type 0} (sp : Meaning S) (l : Ledger) where
  pub all_counted : (l' : Ledger) (s s' : S) (es : List Entry) → Together sp (counts_of l) s s' es → Counted l l' es → AllFiled sp l l' s s' es
  all_counted l' s s' es t k = record { filing = t; holds = together_held sp (counts_of l) s s' es t; ended = t.commits.ended; counts = k }

  pub none_counted : (s s' : S) (es : List Entry) (f : EndFault) (b : Reply) → b ≡ reply_of f → Spoilt sp (counts_of l) s s' es f → NoneFiled sp l l s s' es b
  none_counted s s' es f b q t = record {
    fault = f;
    says = q;
    filing = t;
    holds = spoilt_held sp (counts_of l) s s' es f t;
    ended = t.withdraws.ended;
    counts = refl;
  }

  -- No recipient yet.
  pub each_none : (s : S) → sp.lot s ≡ None → EachFiled sp l l s s [] []
  each_none s n = record { filing = refl; one_each = refl; holds = sym (append-nil (sp.held s)); ended = n; counts = counted_none l }

  -- One recipient more.
  pub each_more : (k k' : Ledger) (s a s' : S) (es : List Entry) (bs : List Reply) (e : Entry) (b : Reply) → EachFiled sp l k s a es bs → Answered sp (counts_of l) a e b s' → Counted k k' (kept e b) → EachFiled sp l k' s s' (es ++ e ∷ []) (bs ++ b ∷ [])
  each_more k k' s a s' es bs e b h n c =
      let push = accepted_push sp (counts_of l) s a es bs e b h.filing in
      record {
        filing = each_push sp (counts_of l) s a s' es bs e b h.filing n;
        one_each = length_push bs b ∙ ap (λ (x : ℕ). x + 1) h.one_each ∙ sym (length_push es e);
        holds = answered_held sp (counts_of l) a s' e b n ∙ ap (λ (x : List Entry). x ++ kept e b) h.holds ∙ append_assoc (sp.held s) (accepted es bs) (kept e b) ∙ ap (λ (x : List Entry). sp.held s ++ x) (sym push);
        ended = answered_lot sp (counts_of l) a s' e b h.ended n;
        counts = subst (λ (x : List Entry). Counted l k' x) (sym push) (counted_more l k k' (accepted es bs) (kept e b) h.counts c);
      }

  -- At most one for each recipient was counted yet.
  pub each_few : (k : Ledger) (s a : S) (es : List Entry) (bs : List Reply) (m : ℕ) → m < 64 → EachFiled sp l k s a es bs → counts_of k m ≤ counts_of l m + length es
  each_few k s a es bs m n h =
      omega (arith, h.counts.filings m n, count_most m (accepted es bs), accepted_most sp (counts_of l) s a es bs h.filing)
