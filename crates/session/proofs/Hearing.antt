-- What octets of a line, of a chunk and of a data part come to, whatever came before them.
use Rattle.std.proofs.Common.{◌≡◌, ℕ, ◌+◌, ◌-◌, ◌^◌, ◌<◌, ◌≤◌, min, Bool, true, false, cond, ltb, leb, List, [], ◌∷◌, ◌++◌, length, take, drop, Some, Option, sym, refl, ap, ◌∙◌, subst, inl, inr, append_assoc, arith, Ok, Err}
use Rattle.std.specs.Option.{option_map}
use Rattle.std.proofs.lemmas.List.{length-append}
use Rattle.std.proofs.lemmas.Bool.{cond-false, cond-true, le-leb, leb-true, lt-leb}
use Rattle.command.specs.Lines.{argument_part}
use Rattle.command.specs.declared.argument.RcptLine.{RcptLine}
use Rattle.command.specs.declared.chunk.Chunk.{Chunk}
use Rattle.judgement.specs.Judgements.{JudgedAs, Line}
use Rattle.judgement.specs.Judgements.{Judged}
use Rattle.judgement.specs.declared.judged.Asked.TheVariants as asks
use Rattle.judgement.specs.declared.phase.Kind.{Kind}
use Rattle.judgement.specs.declared.phase.Phase.{Phase}
use Rattle.judgement.specs.declared.phase.Phase.TheVariants as phase
use Rattle.paths.specs.Envelopes.{domain_part, local_part}
use Rattle.protocol.specs.Buffers.{LineEnds, LinePushed, LineStands, kept, longest}
use Rattle.protocol.specs.DataParts.{DataEnds, DataStands, DataTook, payload_of}
use Rattle.protocol.specs.Lines.{Unbroken, ended, trim}
use Rattle.protocol.specs.Outputs.{overlaid, put}
use Rattle.protocol.specs.declared.line.LineBuffer.{LineBuffer}
use Rattle.protocol.specs.declared.part.DataPart.{DataPart}
use Rattle.protocol.specs.declared.reply.Reply.{Reply}
use Rattle.spool.specs.Lists.{records}
use Rattle.session.specs.Standings.{Standing, answer, commands, heeded, idle, recipient, takes_chunks}
use Rattle.session.specs.Turns.{Enrols, Outcome, Place, Setting, Turned, answered, asked_by, command, ends, joins, laid, line_in, message}
use Rattle.session.specs.Places.{After, Announced, Based, Came, ChunkEnds, Heeding, Hears, InChunk, InData, InLine, InMode, Obeyed, Ready, Stands, Started, TurnEnds, for_data, for_line, for_none, setting_of, standing_of}
use Rattle.session.specs.Seeking.{Seeks}
use Rattle.session.specs.declared.session.ChunkPart.{ChunkPart}
use Rattle.session.specs.declared.session.Event.{Event}
use Rattle.session.specs.declared.session.Event.TheVariants.{Answered, MessageEnd, More}
use Rattle.session.specs.declared.session.Mode.{Mode}
use Rattle.session.specs.declared.session.Mode.TheVariants as mode
use Rattle.session.specs.declared.session.Session.{Session}
use Rattle.session.proofs.Chunking.{in_line, lined, payload_long, people_are, phase_is}
use Rattle.session.proofs.Laying.{laid_long, laid_more, within_is}
use Rattle.session.proofs.Obeying.{idle_is}

-- Only an RCPT line asks the directory.
heeded_asked : (f : RcptLine → Option ℕ) (asked : Option ℕ) (st : Standing) (j : Judged) → ((line : RcptLine) → j ≡ Ok (asks.Rcpt line) → asked ≡ f line) → heeded (λ _. asked) st j ≡ heeded f st j
heeded_asked f asked st (Err r) h = refl
heeded_asked f asked st (Ok asks.Hello) h = refl
heeded_asked f asked st (Ok asks.Extended) h = refl
heeded_asked f asked st (Ok asks.Mail) h = refl
heeded_asked f asked st (Ok (asks.Rcpt line)) h = ap (λ (o : Option ℕ). Some (recipient st o)) (h line refl)
heeded_asked f asked st (Ok asks.Data) h = refl
heeded_asked f asked st (Ok (asks.Chunk c)) h = refl
heeded_asked f asked st (Ok asks.Reset) h = refl
heeded_asked f asked st (Ok asks.Noop) h = refl
heeded_asked f asked st (Ok asks.Verify) h = refl
heeded_asked f asked st (Ok asks.Quit) h = refl

line_same : (k k' : Kind) (q q' : Phase) (a a' : ℕ) (o o' : List ℕ) (l l' : Bool) → k ≡ k' → q ≡ q' → a ≡ a' → o ≡ o' → l ≡ l' → ◌≡◌ {A = Line} (record { kind = k; phase = q; area = a; octets = o; long = l }) (record { kind = k'; phase = q'; area = a'; octets = o'; long = l' })
line_same k k' q q' a a' o o' l l' h i m n w = cc

abbrev pub relined : Session → LineBuffer → Session
relined x b = record { kind = x.kind; phase = x.phase; mode = x.mode; line = b; recipients = x.recipients; kept = x.kept }

rebased : (g : Setting) (p : Place) (x : Session) (sheet : List ℕ) (b : LineBuffer) → Based g p x sheet → Based g p (relined x b) sheet
rebased g p x sheet b h = record { kind = h.kind; standing = h.standing; listed = h.listed; wide = h.wide; records = h.records; few = h.few; kept = h.kept }

-- A command line that was obeyed is a turn.
ready-mode : (g : Setting) (p : Place) (x : Session) (area : List ℕ) → LineStands [] x.line → area ≡ p.area → p.standing.phase ≡ x.phase → (q : Phase) → x.phase ≡ q → (m : Mode) → Ready q m → InMode g p [] x area m
ready-mode g p x area l s e q eq m (for_line w) = record { awaits = inl (ap commands (e ∙ eq) ∙ w); line = l; still = s }
ready-mode g p x area l s e q eq m for_none = record { awaits = inr (e ∙ eq, refl); line = l; still = s }
ready-mode g p x area l s e q eq m (for_data d h) =
    let P : List ℕ → Type 0 = λ a. DataStands [] d p.area a in
    record { heard = e ∙ eq; stands = subst P (sym s) (h p.area); line = l }

obeyed_turn : (g : Setting) (p : Place) (x x' : Session) (area sheet sheet' : List ℕ) (asked : Option ℕ) (j : Judged) (r : Reply) (text : List ℕ) →
    Based g p x sheet → x.mode ≡ mode.Line → area ≡ p.area → commands p.standing.phase ≡ true → Unbroken text → JudgedAs (line_in g p.standing.phase text) j →
    ((line : RcptLine) → j ≡ Ok (asks.Rcpt line) → asked ≡ asked_by g p.standing.phase text line) → Obeyed x x' sheet sheet' asked j r → LineStands [] x.line → length sheet' ≡ length sheet →
    TurnEnds g p (ended text) x' area sheet' (answered r)
obeyed_turn g p x x' area sheet sheet' asked j r text b m s w u jd h o l n =
    let after = standing_of x' p.area sheet' in
    let st = p.standing in
    let P : Standing → Type 0 = λ v. Enrols v after sheet sheet' in
    let Q : List ℕ → Type 0 = λ v. Enrols st after v sheet' in
    let L : LineBuffer → Type 0 = λ y. LineStands [] y in
    let next : Place = record { standing = after; area = p.area; sheet = sheet' } in
    record {
      next = next;
      turn =
          command text j (answer r after) sheet' w u jd
          (sym (heeded_asked (asked_by g st.phase text) asked st j h) ∙ ap (λ (v : Standing). heeded (λ _. asked) v j) (sym b.standing) ∙ o.heeds p.area)
          (subst Q b.listed (subst P b.standing (o.enrols p.area)));
      stands = record {
        base = record { kind = o.kind ∙ b.kind; standing = refl; listed = refl; wide = b.wide; records = n ∙ b.records; few = o.few b.few; kept = omega (arith, o.kept, b.kept) };
        mode = ready-mode g next x' area (subst L (sym o.line) l) s refl x'.phase refl x'.mode (o.ready (ap commands (phase_is g p x sheet b) ∙ w) m);
      };
    }

module _ (g : Setting) (x : Session) (area sheet : List ℕ) (octet : ℕ) (b b₂ : LineBuffer) (shown : List ℕ) (long : Bool) (j : Judged)
    (k : x.kind ≡ g.kind) (w : g.size ≡ length area) (m : x.mode ≡ mode.Line) (o : x.phase ≡ phase.Ended → ⊥)
    (push : LinePushed x.line b octet true) (t : shown ≡ kept b) (v : long ≡ b.long)
    (jd : JudgedAs (record { kind = x.kind; phase = x.phase; area = length area; octets = shown; long = long }) j) (l : LineStands [] b₂) where
  pub line_of : (p : Place) (rest : List ℕ) → Stands g p rest x area sheet → InLine p rest x area
  line_of p rest s = let P : Mode → Type 0 = λ y. InMode g p rest x area y in subst P m s.mode

  pub ends_of : (p : Place) (rest : List ℕ) → Stands g p rest x area sheet → LineEnds (rest ++ octet ∷ []) b
  ends_of p rest s = push.after rest (line_of p rest s).line

  pub commands_of : (p : Place) (rest : List ℕ) → Stands g p rest x area sheet → commands p.standing.phase ≡ true
  commands_of p rest s = elim (line_of p rest s).awaits [ inl h ↦ h | inr h ↦ absurd (o (phase_is g p x sheet s.base ∙ h.0)) ]

  shown_is : (p : Place) (rest : List ℕ) (s : Stands g p rest x area sheet) → shown ≡ take longest (ends_of p rest s).text
  shown_is p rest s = t ∙ (ends_of p rest s).front

  pub judged_of : (p : Place) (rest : List ℕ) (s : Stands g p rest x area sheet) → JudgedAs (line_in g p.standing.phase (ends_of p rest s).text) j
  judged_of p rest s =
      let e = ends_of p rest s in
      let P : Line → Type 0 = λ y. JudgedAs y j in
      subst P (line_same _ _ _ _ _ _ _ _ _ _ k (phase_is g p x sheet s.base) (sym w) (shown_is p rest s) (v ∙ e.long ∙ ap (λ (xs : List ℕ). ltb longest (length xs)) e.whole)) jd

  pub announce_hears : (x' : Session) (c : Chunk) (e : Event) → j ≡ Ok (asks.Chunk c) → Announced (relined x b₂) x' area sheet c e → Hears g x x' area area sheet sheet (octet ∷ []) e
  announce_hears x' c e i a = record {
    after = λ p rest s.
        let n = ends_of p rest s in
        let P : List ℕ → Type 0 = λ y. After g p y x' area sheet e in
        let J : Judged → Type 0 = λ y. JudgedAs (line_in g p.standing.phase n.text) y in
        subst P (sym n.whole) (a.after g p n.text w (rebased g p x sheet b₂ s.base) (line_of p rest s).still (commands_of p rest s) n.first (subst J i (judged_of p rest s)) l);
  }

  pub obey_hears : (x' : Session) (sheet' : List ℕ) (asked : Option ℕ) (r : Reply) → Seeks g.find g.name shown j asked → Obeyed (relined x b₂) x' sheet sheet' asked j r → length sheet' ≡ length sheet → Hears g x x' area area sheet sheet' (octet ∷ []) (Answered r)
  obey_hears x' sheet' asked r sk ob n = record {
    after = λ p rest s.
        let e = ends_of p rest s in
        let P : List ℕ → Type 0 = λ y. TurnEnds g p y x' area sheet' (answered r) in
        let ask : (line : RcptLine) → j ≡ Ok (asks.Rcpt line) → asked ≡ asked_by g p.standing.phase e.text line =
        λ line i. sk line i ∙ ap (λ (xs : List ℕ). g.find (local_part (drop 3 (argument_part (trim xs))) line.path) (domain_part (drop 3 (argument_part (trim xs))) g.name line.path)) (shown_is p rest s)
        in
        subst P (sym e.whole) (obeyed_turn g p (relined x b₂) x' area sheet sheet' asked j r e.text (rebased g p x sheet b₂ s.base) m (line_of p rest s).still (commands_of p rest s) e.first (judged_of p rest s) ask ob l n);
  }

-- Octets of a chunk go into the area where it joins the payload and they fit.
pub put_fits : (keeps : Bool) (area run : List ℕ) (at : ℕ) → keeps ≡ true → at + length run ≤ length area → overlaid area at run ≡ cond keeps (put area at run) area
put_fits keeps area run at k h = sym (cond-true keeps (put area at run) area k ∙ cond-true (leb (at + length run) (length area)) (overlaid area at run) area (le-leb _ _ h))

pub put_past : (keeps : Bool) (area run : List ℕ) (at : ℕ) → length area < at + length run → area ≡ cond keeps (put area at run) area
put_past true area run at h = sym (cond-false (leb (at + length run) (length area)) (overlaid area at run) area (lt-leb _ _ h))
put_past false area run at h = refl

module _ (g : Setting) (x : Session) (area area' sheet : List ℕ) (c : ChunkPart) (run : List ℕ) (at : ℕ)
    (w : g.size ≡ length area) (m : x.mode ≡ mode.Chunk c) (lt : length area < 2 ^ 64) (few : c.got + length run ≤ c.chunk.size)
    (e : at ≡ min (x.kept + c.got) (2 ^ 64 - 1)) (a : area' ≡ cond c.joins (put area at run) area) where
  pub chunk_of : (p : Place) (rest : List ℕ) → Stands g p rest x area sheet → InChunk g p rest x area c
  chunk_of p rest s = let P : Mode → Type 0 = λ y. InMode g p rest x area y in subst P m s.mode

  joined_area : (p : Place) (rest : List ℕ) (s : Stands g p rest x area sheet) → c.joins ≡ true → put area at run ≡ laid p.area ((p.standing.payload ++ (chunk_of p rest s).body) ++ run)
  joined_area p rest s k =
      let i = chunk_of p rest s in
      let st = p.standing in
      let q = st.payload ++ i.body in
      let jn : joins g.size st c.chunk.size ≡ true = sym i.came.joining ∙ k in
      let sum : length st.payload + c.chunk.size ≤ g.size = joins_fit (takes_chunks st.phase) jn in
      let pl = payload_long g p x sheet s.base in
      let lq : length q ≡ length st.payload + length i.body = length-append st.payload i.body in
      let lb : c.got ≡ length i.body = i.count in
      let at_is : at ≡ length q = omega arith in
      let lw : length p.area ≡ g.size = s.base.wide in
      let here : area ≡ laid p.area q = i.came.lays ∙ cond-true c.joins (laid p.area q) p.area k in
      let fit : at + length run ≤ length area = omega arith in
      cond-true (leb (at + length run) (length area)) (overlaid area at run) area (le-leb _ _ fit)
      ∙ ap (λ (v : List ℕ). overlaid v at run) here ∙ ap (λ (n : ℕ). overlaid (laid p.area q) n run) at_is ∙ laid_more p.area q run (omega arith)
    where
      joins_fit : (t : Bool) → cond t (leb (length p.standing.payload + c.chunk.size) g.size) false ≡ true → length p.standing.payload + c.chunk.size ≤ g.size
      joins_fit true h = leb-true _ _ h
      joins_fit false h = let z : ◌≡◌ {A = ℕ} 0 1 = cc in absurd (omega arith)

  pub came_more : (p : Place) (rest : List ℕ) (s : Stands g p rest x area sheet) (y : Session) → y.line ≡ x.line → Came g p y area' c.chunk c.joins (chunk_of p rest s).text ((chunk_of p rest s).body ++ run)
  came_more p rest s y ln =
      let i = chunk_of p rest s in
      let st = p.standing in
      let L : LineBuffer → Type 0 = λ z. LineStands [] z in
      record {
        heard = i.came.heard;
        first = i.came.first;
        announced = i.came.announced;
        joining = i.came.joining;
        lays = a ∙ either c.joins refl;
        line = subst L (sym ln) i.came.line;
      }
    where
      either : (v : Bool) → c.joins ≡ v → cond v (put area at run) area ≡ cond v (laid p.area (p.standing.payload ++ ((chunk_of p rest s).body ++ run))) p.area
      either true k = joined_area p rest s k ∙ ap (laid p.area) (append_assoc p.standing.payload (chunk_of p rest s).body run)
      either false k = (chunk_of p rest s).came.lays ∙ cond-false c.joins (laid p.area (p.standing.payload ++ (chunk_of p rest s).body)) p.area k

  whole_is : (p : Place) (rest : List ℕ) (s : Stands g p rest x area sheet) → rest ++ run ≡ ended (chunk_of p rest s).text ++ ((chunk_of p rest s).body ++ run)
  whole_is p rest s =
      ap (λ (v : List ℕ). v ++ run) (chunk_of p rest s).whole ∙ append_assoc (ended (chunk_of p rest s).text) (chunk_of p rest s).body run

  pub chunk_more : (n : ℕ) → n ≡ length run → (more : c.got + n < c.chunk.size) → Hears g x (record { kind = x.kind; phase = x.phase; mode = mode.Chunk (record { chunk = c.chunk; got = c.got + n; joins = c.joins; more = more }); line = x.line; recipients = x.recipients; kept = x.kept }) area area' sheet sheet run More
  chunk_more n en more = record {
    after = λ p rest s.
        let h = s.base in
        record {
          base = record { kind = h.kind; standing = h.standing; listed = h.listed; wide = h.wide; records = h.records; few = h.few; kept = h.kept };
          mode = record {
            text = (chunk_of p rest s).text;
            body = (chunk_of p rest s).body ++ run;
            whole = whole_is p rest s;
            count = omega (arith, length-append (chunk_of p rest s).body run, (chunk_of p rest s).count);
            came = came_more p rest s _ refl;
          };
        };
  }

  pub chunk_last : (x' : Session) (ev : Event) → c.chunk.size ≤ c.got + length run → length area' ≡ length area → ChunkEnds x x' area' sheet c.chunk c.joins ev → Hears g x x' area area' sheet sheet run ev
  chunk_last x' ev h n ce = record {
    after = λ p rest s.
        let P : List ℕ → Type 0 = λ y. After g p y x' area' sheet ev in
        let i = chunk_of p rest s in
        subst P (sym (whole_is p rest s)) (ce.after g p i.text (i.body ++ run) (omega arith) s.base (came_more p rest s x refl) (omega (arith, length-append i.body run, i.count)));
  }

-- The octets that end a data part.
pub data_ends : (g : Setting) (x x' : Session) (area area' sheet octets : List ℕ) (d d' : DataPart) (e : Event) → g.size ≡ length area → x.mode ≡ mode.Data d → DataTook d d' area area' octets true →
    e ≡ MessageEnd (length (records x.recipients sheet)) (payload_of d') → Started (lined x) x' phase.Greeted → Hears g x x' area area' sheet sheet octets e
data_ends g x x' area area' sheet octets d d' ev w m took is s = record {
  after = λ p rest st.
      let P : Mode → Type 0 = λ y. InMode g p rest x area y in
      let i : InData p rest x area d = subst P m st.mode in
      let e : DataEnds (rest ++ octets) d' p.area area' = took.after rest p.area i.stands in
      let L : LineBuffer → Type 0 = λ y. LineStands [] y in
      let next : Place = record { standing = idle phase.Greeted; area = laid p.area e.payload; sheet = p.sheet } in
      let O : Outcome → Type 0 = λ y. Turned g p (rest ++ octets) y next in
      let A : Event → Type 0 = λ y. After g p (rest ++ octets) x' area' sheet y in
      let shown : Option ℕ → Option (List ℕ) = option_map (λ n. take n area') in
      subst A (sym is) (record {
        next = next;
        turn = subst O (ap (λ (q : Option (List ℕ)). ends p.standing.recipients q) (within_is e.payload p.area area' d'.kept d'.over g.size st.base.wide e.laid) ∙ ap (λ (rs : List ℕ). ends rs (shown (payload_of d'))) (sym (people_are g p x sheet st.base))) (message (rest ++ octets) e.payload i.heard e.message);
        stands = record {
          base = record { kind = s.kind ∙ st.base.kind; standing = idle_is x' (laid p.area e.payload) sheet phase.Greeted s.phase s.recipients s.kept; listed = st.base.listed; wide = laid_long p.area e.payload ∙ st.base.wide; records = st.base.records; few = omega (arith, s.recipients); kept = omega (arith, s.kept) };
          mode = in_line next x' area' g s.mode refl (subst L (sym s.line) i.line) e.laid.holds;
        };
      });
}

-- What octets do that no directory is asked for, in a sheet that is handed on.
pub heard_in : (x x' : Session) (area area' sheet sheet' octets : List ℕ) (e : Event) (name : List ℕ) (find : List ℕ → List ℕ → Option ℕ) → sheet' ≡ sheet → Heeding x x' area area' sheet' octets e → Hears (setting_of x name area find) x x' area area' sheet sheet' octets e
heard_in x x' area area' sheet sheet' octets e name find same h =
    let P : List ℕ → Type 0 = λ s. Hears (setting_of x name area find) x x' area area' s sheet' octets e in
    subst P same (h.in_any name find)
