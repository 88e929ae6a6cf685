-- A feed, step by step: what lasts from one step to the next.
use Rattle.std.proofs.Common.{◌≡◌, ℕ, ◌+◌, ◌<◌, ◌≤◌, List, [], ◌∷◌, ◌++◌, length, take, drop, Some, None, Option, sym, refl, ap, ◌∙◌, subst, append_assoc, arith}
use Rattle.std.proofs.Math.Seq.{take-add}
use Rattle.std.proofs.lemmas.List.{append-nil, drop_at, drop-drop, length-append, length-take-le, take_at}
use Rattle.ends.specs.declared.ledger.Ledger.{Ledger}
use Rattle.protocol.specs.Outputs.{overlaid}
use Rattle.protocol.specs.Replies.{octets_of as wired}
use Rattle.protocol.specs.declared.reply.Reply.{Reply}
use Rattle.session.specs.Queues.{first, waits}
use Rattle.session.specs.declared.waiting.Waiting.{Waiting}
use Rattle.spool.specs.Meanings.{Meaning}
use Rattle.receiver.specs.Moments.{Moment, Paced, Told, Went, advanced, moment}
use Rattle.receiver.specs.Turns.{filed_by}
use Rattle.receiver.specs.declared.seat.Seat.{Seat}
use Rattle.receiver.proofs.Telling.{told_more, told_none, told_write, went_both, went_write}
use Rattle.std.specs.List.{flat_map}

pub first_some : (ws : List Reply) (r : Reply) → Some r ≡ first ws → ws ≡ r ∷ drop 1 ws
first_some [] r h = let z : ◌≡◌ {A = ℕ} 0 1 = cc in absurd (omega arith)
first_some (w ∷ ws) r h = let e : w ≡ r = cc in ap (λ (v : Reply). v ∷ ws) e

pub first_none : (ws : List Reply) → None ≡ first ws → ws ≡ []
first_none [] h = refl
first_none (w ∷ ws) h = let z : ◌≡◌ {A = ℕ} 0 1 = cc in absurd (omega arith)

-- The output after octets were put into it.
module _ (out xs : List ℕ) (at : ℕ) (fit : at + length xs ≤ length out) where
  front_long : length (take at out ++ xs) ≡ at + length xs
  front_long = length-append (take at out) xs ∙ ap (λ (j : ℕ). j + length xs) (length-take-le at out (omega arith))

  over_is : overlaid out at xs ≡ (take at out ++ xs) ++ drop (at + length xs) out
  over_is = sym (append_assoc (take at out) xs (drop (at + length xs) out))

  pub over_front : take (at + length xs) (overlaid out at xs) ≡ take at out ++ xs
  over_front = ap (take (at + length xs)) over_is ∙ take_at (take at out ++ xs) (drop (at + length xs) out) (at + length xs) front_long

  pub over-tail : drop (at + length xs) (overlaid out at xs) ≡ drop (at + length xs) out
  over-tail = ap (drop (at + length xs)) over_is ∙ drop_at (take at out ++ xs) (drop (at + length xs) out) (at + length xs) front_long

  pub over-before : take at (overlaid out at xs) ≡ take at out
  over-before = take_at (take at out) (xs ++ drop (at + length xs) out) at (length-take-le at out (omega arith))

module _ {S : Type 0} (sp : Meaning S) (name : List ℕ) (find : List ℕ → List ℕ → Option ℕ) where
  pub record Conversing (m m' : Moment S) (input was output : List ℕ) (taken written : ℕ) : Type 0 where
    pub some_written : written ≤ length output
    pub some_taken : taken ≤ length input
    pub wide : length m'.area ≡ m'.seat.size
    pub size-stays : m'.seat.size ≡ m.seat.size
    pub idle : sp.lot m'.spool ≡ None
    pub tail : drop written output ≡ drop written was
    pub told : Told sp name find m m' (take taken input) (take written output)
    pub paced : length output < written + 256 → Paced sp name find m m' (take taken input) output written

  pub conversing_none : (m : Moment S) (input output : List ℕ) → 256 ≤ length output → length m.area ≡ m.seat.size → sp.lot m.spool ≡ None → Conversing m m input output output 0 0
  conversing_none m input output h w i = record {
    some_written = omega arith;
    some_taken = omega arith;
    wide = w;
    size-stays = refl;
    idle = i;
    tail = refl;
    told = told_none sp name find m;
    paced = λ p. absurd (omega arith);
  }

  abbrev passed : Seat → Waiting → Seat
  passed x v = record { kind = x.kind; size = x.size; session = x.session; waiting = v }

  pub conversing_write : (m : Moment S) (x : Seat) (v : Waiting) (l : Ledger) (area sheet : List ℕ) (s : S) (r : Reply) (input was output output' : List ℕ) (taken written end : ℕ) →
      Conversing m (moment x l area sheet s) input was output taken written → written + 256 ≤ length output → Some r ≡ first (waits x.waiting) → waits v ≡ drop 1 (waits x.waiting) →
      end ≡ written + length (wired name (length area) r) → output' ≡ overlaid output written (wired name (length area) r) → end ≤ length output' → length output' ≡ length output →
      Conversing m (moment (passed x v) l area sheet s) input was output' taken end
  conversing_write m x v l area sheet s r input was output output' taken written end c space f p ee eo le lo =
      let xs = wired name x.size r in
      let m₁ = moment x l area sheet s in
      let m₂ = moment (passed x v) l area sheet s in
      let same : wired name (length area) r ≡ xs = ap (λ (n : ℕ). wired name n r) c.wide in
      let ee' : end ≡ written + length xs = ee ∙ ap (λ (z : List ℕ). written + length z) same in
      let eo' : output' ≡ overlaid output written xs = eo ∙ ap (overlaid output written) same in
      let fit : written + length xs ≤ length output = omega arith in
      let front : take end output' ≡ take written output ++ xs = ap (λ (n : ℕ). take n output') ee' ∙ ap (take (written + length xs)) eo' ∙ over_front output xs written fit in
      let e = first_some (waits x.waiting) r f in
      let took = take taken input in
      let T : List ℕ → Type 0 = λ z. Told sp name find m m₂ z (take end output') in
      let U : List ℕ → Type 0 = λ z. Told sp name find m m₂ (took ++ []) z in
      let write = told_write sp name find x v r (drop 1 (waits x.waiting)) l area sheet s e p in
      record {
        some_written = le;
        some_taken = c.some_taken;
        wide = c.wide;
        size-stays = c.size-stays;
        idle = c.idle;
        tail =
            ap (λ (n : ℕ). drop n output') ee' ∙ ap (drop (written + length xs)) eo' ∙ over-tail output xs written fit
            ∙ sym (drop-drop (length xs) written output) ∙ ap (drop (length xs)) c.tail ∙ drop-drop (length xs) written was ∙ ap (λ (n : ℕ). drop n was) (sym ee');
        told = subst T (append-nil took) (subst U (sym front) (told_more sp name find m m₁ m₂ took [] (take written output) xs c.told write));
        paced = λ _. record {
          before = written;
          reply = r;
          space = omega arith;
          whole = front ∙ ap (λ (z : List ℕ). z ++ xs) (sym (ap (take written) eo' ∙ over-before output xs written fit));
          rests = λ k filed ft cs i.
              let o = c.told.at k filed ft cs i in
              let q = went_write sp name find x v r (drop 1 (waits x.waiting)) l area sheet s e p (advanced k o.place o.rest o.turns (take written output)) (filed ++ flat_map filed_by o.turns) o.fits o.counts o.idle in
              let b = went_both sp name find k filed m m₁ m₂ took [] (take written output) xs o q.0 in
              let W : List ℕ → Type 0 = λ z. (w : Went sp name find k filed m m₂ z (take end output')) × (w.rest ≡ []) in
              let V : List ℕ → Type 0 = λ z. (w : Went sp name find k filed m m₂ (took ++ []) z) × (w.rest ≡ []) in
              subst W (append-nil took) (subst V (sym front) (b.0, b.1 ∙ q.1));
        };
      }

  pub conversing_step : (m m₁ m₂ : Moment S) (input was output : List ℕ) (taken written n : ℕ) → Conversing m m₁ input was output taken written → written + 256 ≤ length output → n ≤ length (drop taken input) → taken + n ≤ length input →
      m₂.seat.size ≡ m₁.seat.size → length m₂.area ≡ length m₁.area → sp.lot m₂.spool ≡ None → Told sp name find m₁ m₂ (take n (drop taken input)) [] → Conversing m m₂ input was output (taken + n) written
  conversing_step m m₁ m₂ input was output taken written n c space le sum sz wd i t =
      let T : List ℕ → Type 0 = λ z. Told sp name find m m₂ z (take written output) in
      let U : List ℕ → Type 0 = λ z. Told sp name find m m₂ (take taken input ++ take n (drop taken input)) z in
      record {
        some_written = c.some_written;
        some_taken = sum;
        wide = wd ∙ c.wide ∙ sym sz;
        size-stays = sz ∙ c.size-stays;
        idle = i;
        tail = c.tail;
        told = subst T (sym (take-add taken n input)) (subst U (append-nil (take written output)) (told_more sp name find m m₁ m₂ (take taken input) (take n (drop taken input)) (take written output) [] c.told t));
        paced = λ p. absurd (omega arith);
      }
