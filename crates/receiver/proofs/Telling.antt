-- What each part of a feed does to every tally.
use Rattle.std.proofs.Common.{◌≡◌, ℕ, ◌+◌, List, [], ◌∷◌, ◌++◌, length, None, Option, sym, refl, ap, ◌∙◌, subst, append_assoc, arith}
use Rattle.std.specs.List.{flat_map}
use Rattle.std.proofs.lemmas.List.{append-nil}
use Rattle.ends.specs.Ledgers.{count, counts_of}
use Rattle.ends.specs.declared.ledger.Ledger.{Ledger}
use Rattle.judgement.specs.declared.phase.Kind.{Kind}
use Rattle.protocol.specs.Replies.{octets_of as wired}
use Rattle.protocol.specs.declared.reply.Reply.{Reply}
use Rattle.session.specs.Places.{After, Hears, Stands, TurnEnds, setting_of}
use Rattle.session.specs.Queues.{waits}
use Rattle.session.specs.Turns.{Outcome, Place, Setting}
use Rattle.session.specs.declared.session.Event.{Event}
use Rattle.session.specs.declared.session.Event.TheVariants.{More}
use Rattle.session.specs.declared.session.Session.{Session}
use Rattle.session.specs.declared.waiting.Waiting.{Waiting}
use Rattle.spool.specs.Entries.{Entry}
use Rattle.spool.specs.Meanings.{Meaning}
use Rattle.receiver.specs.Ending.{Settled}
use Rattle.receiver.specs.Moments.{Counts, Fits, Moment, Talk, Told, Went, advanced, moment, setting, wire}
use Rattle.receiver.specs.Settling.{Settles}
use Rattle.receiver.specs.Turns.{Chain, Point, Turn, filed_by, octets_of, point, replies_of}
use Rattle.receiver.specs.declared.seat.Seat.{Seat}
use Rattle.receiver.proofs.Settlement.{settles_carry}

pub joined_append : {X A : Type 0} (f : X → List A) (xs ys : List X) → flat_map f (xs ++ ys) ≡ flat_map f xs ++ flat_map f ys
joined_append f [] ys = refl
joined_append f (x ∷ xs) ys = ap (λ zs. f x ++ zs) (joined_append f xs ys) ∙ sym (append_assoc (f x) (flat_map f xs) (flat_map f ys))

pub count-append : (m : ℕ) (es fs : List Entry) → count m (es ++ fs) ≡ count m es + count m fs
count-append m [] fs = omega arith
count-append m (e ∷ es) fs = omega (arith, count-append m es fs)

pub talk_same : (k : Kind) (n : ℕ) (p : Place) (a a' : List ℕ) (b b' : List Reply) (c c' : List ℕ) → a ≡ a' → b ≡ b' → c ≡ c' → ◌≡◌ {A = Talk} (record { kind = k; size = n; place = p; rest = a; owed = b; said = c }) (record { kind = k; size = n; place = p; rest = a'; owed = b'; said = c' })
talk_same k n p a a' b b' c c' h i j = cc

pub point_same : {S : Type 0} (p : Place) (a b : List Entry) (s : S) → a ≡ b → point p a s ≡ point p b s
point_same p a b s h = ap (λ (v : List Entry). point p v s) h

setting_same : (k k' : Kind) (name : List ℕ) (n n' : ℕ) (find : List ℕ → List ℕ → Option ℕ) → k ≡ k' → n ≡ n' → ◌≡◌ {A = Setting} (record { kind = k; name = name; size = n; find = find }) (record { kind = k'; name = name; size = n'; find = find })
setting_same k k' name n n' find h i = cc

pub waits_some : (r : Reply) (rs : List Reply) → r ∷ rs ≡ [] → ⊥
waits_some r rs h = let z : ◌≡◌ {A = ℕ} 0 1 = cc in omega arith

-- What was owed, while nothing waits, was written.
pub record Quits (name : List ℕ) (k : Talk) : Type 0 where
  pub all : List Reply
  pub owes : k.owed ≡ all
  pub said_is : k.said ≡ wire name k.size all

module _ {S : Type 0} (sp : Meaning S) (name : List ℕ) (find : List ℕ → List ℕ → Option ℕ) where
  pub chain-append : (g : Setting) (a b c : Point S) (ts us : List Turn) → Chain sp g a ts b → Chain sp g b us c → Chain sp g a (ts ++ us) c
  chain-append g a b c [] us e d = let P : Point S → Type 0 = λ x. Chain sp g x us c in subst P e d
  chain-append g a b c (t ∷ ts) us h d = (h.0, (h.1.0, chain-append g h.0 b c ts us h.1.1 d))

  pub told_none : (m : Moment S) → Told sp name find m m [] []
  told_none m = record {
    at = λ k filed f c i.
        let F : Talk → Type 0 = λ v. Fits name find v m.seat m.area m.sheet in
        let C : List Entry → Type 0 = λ v. Counts m.ledger v in
        record {
          turns = [];
          place = k.place;
          rest = k.rest;
          cut = append-nil k.rest;
          chain = point_same k.place (filed ++ []) filed m.spool (append-nil filed);
          fits = subst F (talk_same k.kind k.size k.place _ _ _ _ _ _ refl (sym (append-nil k.owed)) (sym (append-nil k.said))) f;
          counts = subst C (sym (append-nil filed)) c;
          holds = sym (append-nil (sp.held m.spool));
          idle = i;
        };
    collections = refl;
  }

  filed-both : (filed : List Entry) (ts us : List Turn) → (filed ++ flat_map filed_by ts) ++ flat_map filed_by us ≡ filed ++ flat_map filed_by (ts ++ us)
  filed-both filed ts us = append_assoc filed (flat_map filed_by ts) (flat_map filed_by us) ∙ ap (λ (v : List Entry). filed ++ v) (sym (joined_append filed_by ts us))

  abbrev Goes : Talk → List Entry → Moment S → Moment S → List ℕ → List ℕ → Type 0
  Goes k filed m m' took wrote = Went sp name find k filed m m' took wrote

  -- One after the other; the rest is that of the second.
  pub went_both : (k : Talk) (filed : List Entry) (m m₁ m₂ : Moment S) (a b c d : List ℕ) (o : Goes k filed m m₁ a c) (p : Goes (advanced k o.place o.rest o.turns c) (filed ++ flat_map filed_by o.turns) m₁ m₂ b d) → (w : Goes k filed m m₂ (a ++ b) (c ++ d)) × (w.rest ≡ p.rest)
  went_both k filed m m₁ m₂ a b c d o p =
      let both = filed-both filed o.turns p.turns in
      let F : Talk → Type 0 = λ v. Fits name find v m₂.seat m₂.area m₂.sheet in
      let C : List Entry → Type 0 = λ v. Counts m₂.ledger v in
      let H : List Entry → Type 0 = λ v. Chain sp (setting name find k) (point o.place (filed ++ flat_map filed_by o.turns) m₁.spool) p.turns (point p.place v m₂.spool) in (
        record {
          turns = o.turns ++ p.turns;
          place = p.place;
          rest = p.rest;
          cut =
              sym (append_assoc k.rest a b) ∙ ap (λ (v : List ℕ). v ++ b) o.cut ∙ append_assoc (flat_map octets_of o.turns) o.rest b
              ∙ ap (λ (v : List ℕ). flat_map octets_of o.turns ++ v) p.cut ∙ sym (append_assoc (flat_map octets_of o.turns) (flat_map octets_of p.turns) p.rest)
              ∙ ap (λ (v : List ℕ). v ++ p.rest) (sym (joined_append octets_of o.turns p.turns));
          chain = chain-append (setting name find k) _ _ _ o.turns p.turns o.chain (subst H both p.chain);
          fits = subst F (talk_same k.kind k.size p.place _ _ _ _ _ _ refl (append_assoc k.owed (flat_map replies_of o.turns) (flat_map replies_of p.turns) ∙ ap (λ (v : List Reply). k.owed ++ v) (sym (joined_append replies_of o.turns p.turns))) (append_assoc k.said c d)) p.fits;
          counts = subst C both p.counts;
          holds =
              p.holds ∙ ap (λ (v : List Entry). v ++ flat_map filed_by p.turns) o.holds ∙ append_assoc (sp.held m.spool) (flat_map filed_by o.turns) (flat_map filed_by p.turns)
              ∙ ap (λ (v : List Entry). sp.held m.spool ++ v) (sym (joined_append filed_by o.turns p.turns));
          idle = p.idle;
        },
        refl,
      )

  pub told_more : (m m₁ m₂ : Moment S) (a b c d : List ℕ) → Told sp name find m m₁ a c → Told sp name find m₁ m₂ b d → Told sp name find m m₂ (a ++ b) (c ++ d)
  told_more m m₁ m₂ a b c d one two = record {
    at = λ k filed f cs i.
        let o = one.at k filed f cs i in
        (went_both k filed m m₁ m₂ a b c d o (two.at (advanced k o.place o.rest o.turns c) (filed ++ flat_map filed_by o.turns) o.fits o.counts o.idle)).0;
    collections = two.collections ∙ one.collections;
  }

  -- A reply that waits is written: nothing of the next turn was taken before.
  pub went_write : (x : Seat) (v : Waiting) (r : Reply) (rs : List Reply) (l : Ledger) (area sheet : List ℕ) (s : S) → waits x.waiting ≡ r ∷ rs → waits v ≡ rs →
      (k : Talk) (filed : List Entry) → Fits name find k x area sheet → Counts l filed → sp.lot s ≡ None →
      (w : Goes k filed (moment x l area sheet s) (moment (record { kind = x.kind; size = x.size; session = x.session; waiting = v }) l area sheet s) [] (wired name x.size r)) × (w.rest ≡ [])
  went_write x v r rs l area sheet s e ev k filed f c i =
      let C : List Entry → Type 0 = λ z. Counts l z in
      let none : k.rest ≡ [] = f.quiet (λ q. waits_some r rs (sym e ∙ q)) in (
        record {
          turns = [];
          place = k.place;
          rest = k.rest;
          cut = append-nil k.rest;
          chain = point_same k.place (filed ++ []) filed s (append-nil filed);
          fits = record {
            stands = f.stands;
            kind_is = f.kind_is;
            length_is = f.length_is;
            written = f.written ++ r ∷ [];
            owes = append-nil k.owed ∙ f.owes ∙ ap (λ (z : List Reply). f.written ++ z) (e ∙ ap (λ (z : List Reply). r ∷ z) (sym ev)) ∙ sym (append_assoc f.written (r ∷ []) (waits v));
            said_is =
                ap (λ (z : List ℕ). z ++ wired name x.size r) f.said_is
                ∙ ap (λ (n : ℕ). wire name k.size f.written ++ wired name n r) f.length_is
                ∙ ap (λ (z : List ℕ). wire name k.size f.written ++ z) (sym (append-nil (wired name k.size r)))
                ∙ sym (joined_append (wired name k.size) f.written (r ∷ []));
            quiet = λ _. none;
          };
          counts = subst C (sym (append-nil filed)) c;
          holds = sym (append-nil (sp.held s));
          idle = i;
        },
        none,
      )

  pub told_write : (x : Seat) (v : Waiting) (r : Reply) (rs : List Reply) (l : Ledger) (area sheet : List ℕ) (s : S) → waits x.waiting ≡ r ∷ rs → waits v ≡ rs →
      Told sp name find (moment x l area sheet s) (moment (record { kind = x.kind; size = x.size; session = x.session; waiting = v }) l area sheet s) [] (wired name x.size r)
  told_write x v r rs l area sheet s e ev = record { at = λ k filed f c i. (went_write x v r rs l area sheet s e ev k filed f c i).0; collections = refl }

  -- What a session heard comes to at a tally's setting.
  pub after_at : (x : Seat) (x' : Session) (area area' sheet sheet' octets : List ℕ) (e : Event) (k : Talk) → length area ≡ x.size → Fits name find k x area sheet → Hears (setting_of x.session name area find) x.session x' area area' sheet sheet' octets e → After (setting name find k) k.place (k.rest ++ octets) x' area' sheet' e
  after_at x x' area area' sheet sheet' octets e k w f h =
      let P : Setting → Type 0 = λ g. Hears g x.session x' area area' sheet sheet' octets e in
      (subst P (setting_same _ _ name _ _ find f.stands.base.kind (w ∙ f.length_is)) h).after k.place k.rest f.stands

  -- Octets of a turn that goes on.
  pub told_on : (x : Seat) (x' : Session) (l : Ledger) (area area' sheet sheet' octets : List ℕ) (s : S) → length area ≡ x.size → waits x.waiting ≡ [] → Hears (setting_of x.session name area find) x.session x' area area' sheet sheet' octets More →
      Told sp name find (moment x l area sheet s) (moment (record { kind = x.kind; size = x.size; session = x'; waiting = x.waiting }) l area' sheet' s) octets []
  told_on x x' l area area' sheet sheet' octets s w q h = record {
    at = λ k filed f c i.
        let st : Stands (setting name find k) k.place (k.rest ++ octets) x' area' sheet' = after_at x x' area area' sheet sheet' octets More k w f h in
        let C : List Entry → Type 0 = λ v. Counts l v in
        record {
          turns = [];
          place = k.place;
          rest = k.rest ++ octets;
          cut = refl;
          chain = point_same k.place (filed ++ []) filed s (append-nil filed);
          fits = record {
            stands = st;
            kind_is = f.kind_is;
            length_is = f.length_is;
            written = f.written;
            owes = append-nil k.owed ∙ f.owes;
            said_is = append-nil k.said ∙ f.said_is;
            quiet = λ n. absurd (n q);
          };
          counts = subst C (sym (append-nil filed)) c;
          holds = sym (append-nil (sp.held s));
          idle = i;
        };
    collections = refl;
  }

  -- Octets that finish a turn.
  pub told-turn : (x : Seat) (x' : Session) (v : Waiting) (l l' : Ledger) (area area' sheet sheet' octets : List ℕ) (s s' : S) (o : Outcome) → waits x.waiting ≡ [] →
      ((k : Talk) → Fits name find k x area sheet → TurnEnds (setting name find k) k.place (k.rest ++ octets) x' area' sheet' o) → Settled sp x.kind l l' s s' o v →
      Told sp name find (moment x l area sheet s) (moment (record { kind = x.kind; size = x.size; session = x'; waiting = v }) l' area' sheet' s') octets []
  told-turn x x' v l l' area area' sheet sheet' octets s s' o q te sd = record {
    at = λ k filed f c i.
        let t = te k f in
        let turn : Turn = record { octets = k.rest ++ octets; replies = waits v; filed = sd.filed } in
        let one : flat_map filed_by (turn ∷ []) ≡ sd.filed = append-nil sd.filed in
        let C : List Entry → Type 0 = λ z. Counts l' z in
        let P : Kind → Type 0 = λ z. Settles sp (λ m. count m filed) s s' z o (waits v) sd.filed in
        let mid : Point S = point t.next (filed ++ sd.filed) s' in
        record {
          turns = turn ∷ [];
          place = t.next;
          rest = [];
          cut = sym (append-nil _ ∙ append-nil (k.rest ++ octets));
          chain = (
            mid,
            (
              record { outcome = o; turn = t.turn; settles = subst P f.kind_is (settles_carry sp (counts_of l) (λ m. count m filed) c.filings s s' x.kind o (waits v) sd.filed sd.settles); counts = refl },
              point_same t.next _ _ s' (ap (λ (z : List Entry). filed ++ z) one),
            ),
          );
          fits = record {
            stands = t.stands;
            kind_is = f.kind_is;
            length_is = f.length_is;
            written = f.written;
            owes = ap (λ (z : List Reply). k.owed ++ z) (append-nil (waits v)) ∙ ap (λ (z : List Reply). z ++ waits v) (f.owes ∙ ap (λ (z : List Reply). f.written ++ z) q ∙ append-nil f.written);
            said_is = append-nil k.said ∙ f.said_is;
            quiet = λ _. refl;
          };
          counts = subst C (ap (λ (z : List Entry). filed ++ z) (sym one)) (record { filings = λ m lt. omega (arith, sd.counts.filings m lt, c.filings m lt, count-append m filed sd.filed) });
          holds = sd.holds ∙ ap (λ (z : List Entry). sp.held s ++ z) (sym one);
          idle = sd.idle;
        };
    collections = sd.counts.collections;
  }
