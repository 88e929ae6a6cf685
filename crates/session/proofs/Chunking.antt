-- What the octets of a chunk come to.
use Rattle.std.proofs.Common.{◌≡◌, ℕ, ◌+◌, ◌≤◌, min, Bool, true, false, cond, leb, List, [], ◌++◌, length, take, Some, None, Option, IfSome, is_some, sym, refl, ap, ◌∙◌, subst, inl, arith, Ok}
use Rattle.std.proofs.lemmas.List.{append-nil, length-append, length-take, length-take-le}
use Rattle.std.proofs.lemmas.Bool.{cond-false, cond-true, leb-true}
use Rattle.command.specs.declared.chunk.Chunk.{Chunk}
use Rattle.judgement.specs.Judgements.{JudgedAs}
use Rattle.judgement.specs.declared.judged.Asked.TheVariants as asks
use Rattle.judgement.specs.declared.phase.Phase.{Phase}
use Rattle.judgement.specs.declared.phase.Phase.TheVariants as phase
use Rattle.protocol.specs.Buffers.{LineStands}
use Rattle.protocol.specs.Lines.{Unbroken, ended}
use Rattle.protocol.specs.declared.line.LineBuffer.{LineBuffer}
use Rattle.protocol.specs.declared.reply.Reply.TheVariants as reply
use Rattle.spool.specs.Lists.{records}
use Rattle.spool.proofs.Fronts.{front_is}
use Rattle.session.specs.Standings.{Standing, commands, idle, most, takes_chunks}
use Rattle.session.specs.Turns.{Setting, Place, Outcome, Turned, answered, chunk, chunk_after, chunk_area, chunk_outcome, ends, joined_after, joined_chunk, joins, laid, line_in, oversized_after, oversized_chunk}
use Rattle.session.specs.Places.{After, Based, Came, InMode, Started, TurnEnds, mailboxes, standing_of}
use Rattle.session.specs.declared.session.Event.{Event}
use Rattle.session.specs.declared.session.Event.TheVariants.{MessageEnd}
use Rattle.session.specs.declared.session.Mode.{Mode}
use Rattle.session.specs.declared.session.Mode.TheVariants as mode
use Rattle.session.specs.declared.session.Session.{Session}
use Rattle.session.proofs.Laying.{laid_front, laid_long, laid-own}
use Rattle.session.proofs.Obeying.{idle_is, standing_same}

module _ (g : Setting) (p : Place) (x : Session) (sheet : List ℕ) (b : Based g p x sheet) where
  pub phase_is : x.phase ≡ p.standing.phase
  phase_is = ap (λ (st : Standing). st.phase) b.standing

  pub payload_is : p.standing.payload ≡ take x.kept p.area
  payload_is = sym (ap (λ (st : Standing). st.payload) b.standing)

  pub payload_long : length p.standing.payload ≡ x.kept
  payload_long = ap length payload_is ∙ length-take-le x.kept p.area (omega (arith, b.kept, b.wide))

  -- The recipients by how many there are.
  pub people_are : mailboxes (take (length (records x.recipients sheet)) sheet) ≡ p.standing.recipients
  people_are =
      ap mailboxes (front_is sheet x.recipients.count (length (records x.recipients sheet)) (length-take x.recipients.count sheet))
      ∙ ap (λ (st : Standing). st.recipients) b.standing

abbrev pub lined : Session → Session
lined x = record { kind = x.kind; phase = x.phase; mode = mode.Line; line = x.line; recipients = x.recipients; kept = x.kept }

-- A line is awaited next.
pub in_line : (p : Place) (x : Session) (area : List ℕ) (g : Setting) → x.mode ≡ mode.Line → commands p.standing.phase ≡ true → LineStands [] x.line → area ≡ p.area → InMode g p [] x area x.mode
in_line p x area g m w l s =
    let P : Mode → Type 0 = λ y. InMode g p [] x area y in
    subst P (sym m) (record { awaits = inl w; line = l; still = s })

module _ (g : Setting) (p : Place) (x x' : Session) (area sheet : List ℕ) (c : Chunk) (keeps : Bool) (text body : List ℕ)
    (b : Based g p x sheet) (m : Came g p x area c keeps text body) (n : length body ≡ c.size) where
  abbrev next : Place
  next = record { standing = chunk_after g.size p.standing body c.last; area = chunk_area g.size p.standing p.area body; sheet = p.sheet }

  joins_are : keeps ≡ joins g.size p.standing (length body)
  joins_are = m.joining ∙ ap (joins g.size p.standing) (sym n)

  pub area_is : area ≡ next.area
  area_is = m.lays ∙ ap (λ (w : Bool). cond w (laid p.area (p.standing.payload ++ body)) p.area) joins_are

  pub area_long : length next.area ≡ g.size
  area_long =
      sym (ap length (m.lays ∙ ap (λ (w : Bool). cond w (laid p.area (p.standing.payload ++ body)) p.area) joins_are))
      ∙ ap length m.lays ∙ either keeps
    where
      either : (w : Bool) → length (cond w (laid p.area (p.standing.payload ++ body)) p.area) ≡ g.size
      either true = laid_long p.area (p.standing.payload ++ body) ∙ b.wide
      either false = b.wide

  pub chunk_ends : (o : Outcome) → chunk_outcome g.size p.standing body c.last ≡ o → standing_of x' next.area sheet ≡ next.standing → commands next.standing.phase ≡ true → x'.kind ≡ x.kind → x'.recipients.count ≤ most → x'.kept ≤ g.size → x'.mode ≡ mode.Line → x'.line ≡ x.line → TurnEnds g p (ended text ++ body) x' area sheet o
  chunk_ends o eo es w k f kp md ln =
      let P : Outcome → Type 0 = λ y. Turned g p (ended text ++ body) y next in
      let L : LineBuffer → Type 0 = λ y. LineStands [] y in
      record {
        next = next;
        turn = subst P eo (chunk text body c m.heard m.first m.announced n);
        stands = record {
          base = record { kind = k ∙ b.kind; standing = es; listed = b.listed; wide = area_long; records = b.records; few = f; kept = kp };
          mode = in_line next x' area g md w (subst L (sym ln) m.line) area_is;
        };
      }

  -- In a phase that takes no chunks.
  pub not_taken : takes_chunks x.phase ≡ false → x'.phase ≡ x.phase → x'.recipients ≡ x.recipients → x'.kept ≡ x.kept → x'.kind ≡ x.kind → x'.mode ≡ mode.Line → x'.line ≡ x.line → TurnEnds g p (ended text ++ body) x' area sheet (answered reply.OutOfOrder)
  not_taken t e1 e2 e3 k md ln =
      let st = p.standing in
      let no : takes_chunks st.phase ≡ false = ap takes_chunks (sym (phase_is g p x sheet b)) ∙ t in
      let stays : next.standing ≡ st = cond-false (takes_chunks st.phase) _ _ no in
      let idle-area : next.area ≡ p.area = cond-false (joins g.size st (length body)) _ _ (cond-false (takes_chunks st.phase) _ _ no) in
      let same : standing_of x' next.area sheet ≡ standing_of x p.area sheet = standing_same _ _ _ _ _ _ e1 (ap (λ l. mailboxes (records l sheet)) e2) (ap (λ (j : ℕ). take j next.area) e3 ∙ ap (take x.kept) idle-area) in
      chunk_ends (answered reply.OutOfOrder) (cond-false (takes_chunks st.phase) _ _ no) (same ∙ b.standing ∙ sym stays)
      (ap (λ (s : Standing). commands s.phase) stays ∙ m.heard) k (let P : _ = λ l. l.count ≤ most in subst P (sym e2) b.few) (omega (arith, b.kept)) md ln

  taken_is : takes_chunks x.phase ≡ true → takes_chunks p.standing.phase ≡ true
  taken_is t = ap takes_chunks (sym (phase_is g p x sheet b)) ∙ t

  out_is : takes_chunks x.phase ≡ true → (w : Bool) → keeps ≡ w → chunk_outcome g.size p.standing body c.last ≡ cond w (joined_chunk p.standing (p.standing.payload ++ body) c.last) (oversized_chunk p.standing c.last)
  out_is t w e =
      cond-true (takes_chunks p.standing.phase) _ _ (taken_is t)
      ∙ ap (λ (v : Bool). cond v (joined_chunk p.standing (p.standing.payload ++ body) c.last) (oversized_chunk p.standing c.last)) (sym joins_are ∙ e)

  after_is : takes_chunks x.phase ≡ true → (w : Bool) → keeps ≡ w → next.standing ≡ cond w (joined_after p.standing (p.standing.payload ++ body) c.last) (oversized_after c.last)
  after_is t w e =
      cond-true (takes_chunks p.standing.phase) _ _ (taken_is t)
      ∙ ap (λ (v : Bool). cond v (joined_after p.standing (p.standing.payload ++ body) c.last) (oversized_after c.last)) (sym joins_are ∙ e)

  started : (q : Phase) → Started (lined x) x' q → commands q ≡ true → next.standing ≡ idle q → (o : Outcome) → chunk_outcome g.size p.standing body c.last ≡ o → TurnEnds g p (ended text ++ body) x' area sheet o
  started q s w e o eo =
      chunk_ends o eo (idle_is x' next.area sheet q s.phase s.recipients s.kept ∙ sym e)
      (ap (λ (st : Standing). commands st.phase) e ∙ w) s.kind (omega (arith, s.recipients)) (omega (arith, s.kept)) s.mode s.line

  -- A chunk that would pass the area.
  pub oversized : takes_chunks x.phase ≡ true → keeps ≡ false → c.last ≡ false → Started (lined x) x' phase.Spoiled → TurnEnds g p (ended text ++ body) x' area sheet (answered reply.TooLarge)
  oversized t k l s =
      started phase.Spoiled s refl (after_is t false k ∙ ap oversized_after l) (answered reply.TooLarge)
      (out_is t false k ∙ ap (oversized_chunk p.standing) l)

  oversized_last : takes_chunks x.phase ≡ true → keeps ≡ false → c.last ≡ true → Started (lined x) x' phase.Greeted → TurnEnds g p (ended text ++ body) x' area sheet (ends (mailboxes (take (length (records x.recipients sheet)) sheet)) None)
  oversized_last t k l s =
      started phase.Greeted s refl (after_is t false k ∙ ap oversized_after l) _
      (out_is t false k ∙ ap (oversized_chunk p.standing) l ∙ ap (λ (rs : List ℕ). ends rs None) (sym (people_are g p x sheet b)))

  -- A chunk that joins the payload.
  fits : takes_chunks x.phase ≡ true → keeps ≡ true → length (p.standing.payload ++ body) ≤ g.size
  fits t k =
      let j : joins g.size p.standing (length body) ≡ leb (length p.standing.payload + length body) g.size = cond-true (takes_chunks p.standing.phase) _ _ (taken_is t) in
      omega (arith, length-append p.standing.payload body, leb-true (length p.standing.payload + length body) g.size (sym j ∙ sym joins_are ∙ k))

  front_of : takes_chunks x.phase ≡ true → keeps ≡ true → take (x.kept + c.size) next.area ≡ p.standing.payload ++ body
  front_of t k =
      let q = p.standing.payload ++ body in
      let f = fits t k in
      let whole : length q ≡ x.kept + c.size = omega (arith, length-append p.standing.payload body, payload_long g p x sheet b) in
      ap (λ (j : ℕ). take j next.area) (sym whole)
      ∙ ap (take (length q)) (cond-true (joins g.size p.standing (length body)) (laid p.area q) p.area (sym joins_are ∙ k))
      ∙ laid_front p.area q (omega (arith, b.wide))

  kept_is : takes_chunks x.phase ≡ true → keeps ≡ true → (k : ℕ) → g.size ≡ length area → k ≡ min (x.kept + c.size) (length area) → k ≡ x.kept + c.size
  kept_is t kp k w e = omega (arith, fits t kp, length-append p.standing.payload body, payload_long g p x sheet b)

  pub joined : takes_chunks x.phase ≡ true → keeps ≡ true → c.last ≡ false → x'.phase ≡ phase.Chunks → x'.recipients ≡ x.recipients → g.size ≡ length area → x'.kept ≡ min (x.kept + c.size) (length area) → x'.kind ≡ x.kind → x'.mode ≡ mode.Line → x'.line ≡ x.line → TurnEnds g p (ended text ++ body) x' area sheet (answered reply.Done)
  joined t kp l e1 e2 w cut k md ln =
      let st = p.standing in
      let e3 = kept_is t kp x'.kept w cut in
      let a : next.standing ≡ record { phase = phase.Chunks; recipients = st.recipients; payload = st.payload ++ body } = after_is t true kp ∙ ap (joined_after st (st.payload ++ body)) l in
      chunk_ends (answered reply.Done) (out_is t true kp ∙ ap (joined_chunk st (st.payload ++ body)) l)
      (standing_same _ _ _ _ _ _ e1 (ap (λ l. mailboxes (records l sheet)) e2 ∙ ap (λ (s : Standing). s.recipients) b.standing) (ap (λ (j : ℕ). take j next.area) e3 ∙ front_of t kp) ∙ sym a)
      (ap (λ (s : Standing). commands s.phase) a) k (let P : _ = λ l. l.count ≤ most in subst P (sym e2) b.few)
      (omega (arith, fits t kp, length-append p.standing.payload body, payload_long g p x sheet b)) md ln

  joined_last : takes_chunks x.phase ≡ true → keeps ≡ true → c.last ≡ true → (k : ℕ) → k ≡ x.kept + c.size → Started (lined x) x' phase.Greeted → TurnEnds g p (ended text ++ body) x' area sheet (ends (mailboxes (take (length (records x.recipients sheet)) sheet)) (Some (take k area)))
  joined_last t kp l k e s =
      let st = p.standing in
      started phase.Greeted s refl (after_is t true kp ∙ ap (joined_after st (st.payload ++ body)) l) _
      (out_is t true kp ∙ ap (joined_chunk st (st.payload ++ body)) l
      ∙ ap (λ (rs : List ℕ). ends rs (Some (st.payload ++ body))) (sym (people_are g p x sheet b))
      ∙ ap (λ (q : List ℕ). ends (mailboxes (take (length (records x.recipients sheet)) sheet)) (Some q)) (sym (ap (take k) area_is ∙ ap (λ (j : ℕ). take j next.area) e ∙ front_of t kp)))

  -- The last chunk ends the message: with the payload where it joins, and with none where it does not.
  pub ended_message : takes_chunks x.phase ≡ true → c.last ≡ true → g.size ≡ length area → (k : Option ℕ) → is_some k ≡ keeps → IfSome k (λ v. v ≡ min (x.kept + c.size) (length area)) → (e : Event) → e ≡ MessageEnd (length (records x.recipients sheet)) k → Started (lined x) x' phase.Greeted → After g p (ended text ++ body) x' area sheet e
  ended_message t l w (Some k) i v e q s = let A : Event → Type 0 = λ y. After g p (ended text ++ body) x' area sheet y in subst A (sym q) (joined_last t (sym i) l k (kept_is t (sym i) k w v) s)
  ended_message t l w None i v e q s = let A : Event → Type 0 = λ y. After g p (ended text ++ body) x' area sheet y in subst A (sym q) (oversized_last t (sym i) l s)

-- A chunk is announced, and none of its octets has come.
pub came_none : (g : Setting) (p : Place) (x y : Session) (area sheet : List ℕ) (c : Chunk) (keeps : Bool) (text : List ℕ) → Based g p x sheet → g.size ≡ length area → area ≡ p.area → commands p.standing.phase ≡ true → Unbroken text → JudgedAs (line_in g p.standing.phase text) (Ok (asks.Chunk c)) → LineStands [] y.line →
    (x.kept ≤ length area → keeps ≡ cond (takes_chunks x.phase) (leb (x.kept + c.size) (length area)) false) → Came g p y area c keeps text []
came_none g p x y area sheet c keeps text b w s h u j l k =
    let st = p.standing in
    let own : laid p.area (st.payload ++ []) ≡ p.area = ap (laid p.area) (append-nil st.payload ∙ payload_is g p x sheet b) ∙ laid-own p.area x.kept (omega (arith, b.kept, b.wide)) in
    let either : (v : Bool) → p.area ≡ cond v (laid p.area (st.payload ++ [])) p.area = λ v. elim v as (λ z. p.area ≡ cond z (laid p.area (st.payload ++ [])) p.area) [ true ↦ sym own | false ↦ refl ] in
    record {
      heard = h;
      first = u;
      announced = j;
      joining =
          k (omega (arith, b.kept))
          ∙ ap (λ (q : Phase). cond (takes_chunks q) (leb (x.kept + c.size) (length area)) false) (phase_is g p x sheet b)
          ∙ ap (λ (n : ℕ). cond (takes_chunks st.phase) (leb (n + c.size) (length area)) false) (sym (payload_long g p x sheet b))
          ∙ ap (λ (n : ℕ). cond (takes_chunks st.phase) (leb (length st.payload + c.size) n) false) (sym w);
      lays = s ∙ either keeps;
      line = l;
    }
