-- Reading on between quote marks.
use Rattle.std.proofs.Common.{◌≡◌, ℕ, ◌+◌, ◌-◌, ◌<◌, ◌≤◌, true, false, List, [], ◌∷◌, ◌++◌, length, get_or, take, drop, sym, refl, ap, ◌∙◌, subst, add_assoc, zero-add, arith}
use Rattle.std.specs.List.{flat_map, AllByRecursion}
use Rattle.std.proofs.lemmas.List.{length-append, append_assoc, take-append-drop, take_at, length-take-le}
use Rattle.address.specs.Classes.{qtext, printable}
use Rattle.address.specs.Parts.{Quotable, bare, escaped, spelling, Allowed, QuotedAt, Only}
use Rattle.address.specs.Quotes.{Step}
use Rattle.address.proofs.Runs.{passes_apart}

-- Behind the opening quote mark: what may stand there and the closing one are m octets.
record Body (ys : List ℕ) (m : ℕ) : Type 0 where
  inner : List Quotable
  allowed : AllByRecursion Allowed inner
  rest : List ℕ
  spelt : ys ≡ flat_map spelling inner ++ 34 ∷ rest
  long : m ≡ length (flat_map spelling inner) + 1

-- What ends in zs, k octets further on, and what ends in ys are the same.
pub record Onward (ys zs : List ℕ) (k : ℕ) : Type 0 where
  back : (m : ℕ) → Body zs m → Body ys (k + m)
  forth : (m : ℕ) → Body ys m → (j : ℕ) × (m ≡ k + j) × Body zs j

pub onward_none : (ys : List ℕ) → Onward ys ys 0
onward_none ys = record {
  back = λ m b. subst (Body ys) (sym (zero-add m)) b;
  forth = λ m b. (m, sym (zero-add m), b);
}

onward_more : (ys zs vs : List ℕ) (k l : ℕ) → Onward ys zs k → Onward zs vs l → Onward ys vs (k + l)
onward_more ys zs vs k l a b = record {
  back = λ m h. subst (Body ys) (sym (add_assoc k l m)) (a.back (l + m) (b.back m h));
  forth = λ m h.
      let f = a.forth m h in
      let g = b.forth f.0 f.2 in
      (g.0, omega (arith, f.1, g.1), g.2);
}

bare_34 : qtext 34 ≡ false
unfolding qtext
bare_34 = refl

bare_92 : qtext 92 ≡ false
unfolding qtext
bare_92 = refl

by_bare : (x : ℕ) (zs : List ℕ) → qtext x ≡ true → Onward (x ∷ zs) zs 1
by_bare x zs q = record {
  back = λ m b. record {
    inner = bare x ∷ b.inner;
    allowed = (q, b.allowed);
    rest = b.rest;
    spelt = ap (λ v. x ∷ v) b.spelt;
    long = omega (arith, b.long);
  };
  forth = λ m b. go m b.inner b.allowed b.rest b.spelt b.long;
}
  where
    go : (m : ℕ) (ps : List Quotable) → AllByRecursion Allowed ps → (rest : List ℕ) → x ∷ zs ≡ flat_map spelling ps ++ 34 ∷ rest → m ≡ length (flat_map spelling ps) + 1 → (j : ℕ) × (m ≡ 1 + j) × Body zs j
    go m [] a r e l = absurd (passes_apart qtext x 34 q bare_34 (ap (λ v. get_or v 0 0) e))
    go m (bare y ∷ ps) a r e l =
        (length (flat_map spelling ps) + 1, omega (arith, l), record { inner = ps; allowed = a.1; rest = r; spelt = ap (drop 1) e; long = refl })
    go m (escaped y ∷ ps) a r e l = absurd (passes_apart qtext x 92 q bare_92 (ap (λ v. get_or v 0 0) e))

by_escape : (x : ℕ) (zs : List ℕ) → printable x ≡ true → Onward (92 ∷ x ∷ zs) zs 2
by_escape x zs q = record {
  back = λ m b. record {
    inner = escaped x ∷ b.inner;
    allowed = (q, b.allowed);
    rest = b.rest;
    spelt = ap (λ v. 92 ∷ x ∷ v) b.spelt;
    long = omega (arith, b.long);
  };
  forth = λ m b. go m b.inner b.allowed b.rest b.spelt b.long;
}
  where
    go : (m : ℕ) (ps : List Quotable) → AllByRecursion Allowed ps → (rest : List ℕ) → 92 ∷ x ∷ zs ≡ flat_map spelling ps ++ 34 ∷ rest → m ≡ length (flat_map spelling ps) + 1 → (j : ℕ) × (m ≡ 2 + j) × Body zs j
    go m [] a r e l = absurd (let z : 92 ≡ 34 = ap (λ v. get_or v 0 0) e in omega arith)
    go m (bare y ∷ ps) a r e l = absurd (passes_apart qtext y 92 a.0 bare_92 (sym (ap (λ v. get_or v 0 0) e)))
    go m (escaped y ∷ ps) a r e l =
        (length (flat_map spelling ps) + 1, omega (arith, l), record { inner = ps; allowed = a.1; rest = r; spelt = ap (drop 2) e; long = refl })

-- Where nothing of the kind stands, and no quote mark, nothing ends.
stuck : (zs : List ℕ) (m : ℕ) → ((vs : List ℕ) → zs ≡ 34 ∷ vs → ⊥) → ((vs : List ℕ) → Step zs vs → ⊥) → Body zs m → ⊥
stuck zs m n p b = go b.inner b.allowed b.spelt
  where
    go : (ps : List Quotable) → AllByRecursion Allowed ps → zs ≡ flat_map spelling ps ++ 34 ∷ b.rest → ⊥
    go [] a e = n b.rest e
    go (q ∷ ps) a e =
        p (flat_map spelling ps ++ 34 ∷ b.rest) (q, a.0, e ∙ append_assoc (spelling q) (flat_map spelling ps) (34 ∷ b.rest))

closed : (r : List ℕ) → Body (34 ∷ r) 1
closed r = record { inner = []; allowed = tt; rest = r; spelt = refl; long = refl }

closed_only : (r : List ℕ) (m : ℕ) → Body (34 ∷ r) m → m ≡ 1
closed_only r m b = go b.inner b.allowed b.spelt b.long
  where
    go : (ps : List Quotable) → AllByRecursion Allowed ps → 34 ∷ r ≡ flat_map spelling ps ++ 34 ∷ b.rest → m ≡ length (flat_map spelling ps) + 1 → m ≡ 1
    go [] a e l = l
    go (bare y ∷ ps) a e l = absurd (passes_apart qtext y 34 a.0 bare_34 (sym (ap (λ v. get_or v 0 0) e)))
    go (escaped y ∷ ps) a e l = absurd (let z : 34 ≡ 92 = ap (λ v. get_or v 0 0) e in omega arith)

-- A quoted local part is an opening quote mark and what ends behind it.
body_of : (s ys : List ℕ) (n : ℕ) → s ≡ 34 ∷ ys → QuotedAt s n → (m : ℕ) × (n ≡ 1 + m) × Body ys m
body_of s ys n e q =
    let i = flat_map spelling q.form.inner in
    let t : take n s ≡ 34 ∷ (i ++ 34 ∷ []) = q.form.spelt in
    let f : 34 ∷ ys ≡ 34 ∷ ((i ++ 34 ∷ []) ++ drop n s) = sym e ∙ sym (take-append-drop n s) ∙ ap (λ v. v ++ drop n s) t in
    let l : n ≡ length (34 ∷ (i ++ 34 ∷ [])) = sym (length-take-le n s q.within) ∙ ap length t in
    let k : length (i ++ 34 ∷ []) ≡ length i + 1 = length-append i (34 ∷ []) in (
      length i + 1,
      omega (arith, l, k),
      record { inner = q.form.inner; allowed = q.form.allowed; rest = drop n s; spelt = ap (drop 1) f ∙ append_assoc i (34 ∷ []) (drop n s); long = refl },
    )

quoted_from : (s ys : List ℕ) (m : ℕ) → s ≡ 34 ∷ ys → Body ys m → QuotedAt s (1 + m)
quoted_from s ys m e b =
    let i = flat_map spelling b.inner in
    let f : s ≡ (34 ∷ (i ++ 34 ∷ [])) ++ b.rest = e ∙ ap (λ v. 34 ∷ v) (b.spelt ∙ sym (append_assoc i (34 ∷ []) b.rest)) in
    let k : length (i ++ 34 ∷ []) ≡ length i + 1 = length-append i (34 ∷ []) in
    let n : length (34 ∷ (i ++ 34 ∷ [])) ≡ 1 + m = omega (arith, k, b.long) in
    let l : length s ≡ length (34 ∷ (i ++ 34 ∷ [])) + length b.rest = ap length f ∙ length-append (34 ∷ (i ++ 34 ∷ [])) b.rest in
    record {
      within = omega (arith, l, n);
      form = record { inner = b.inner; allowed = b.allowed; spelt = ap (take (1 + m)) f ∙ take_at (34 ∷ (i ++ 34 ∷ [])) b.rest (1 + m) n };
    }

-- A quoted local part, read as far as the rest.
pub record ReadTo (s rest : List ℕ) : Type 0 where
  pub behind : List ℕ
  pub opened : s ≡ 34 ∷ behind
  pub within : length rest ≤ length behind
  pub onward : Onward behind rest (length behind - length rest)

pub begun : (s ys : List ℕ) → s ≡ 34 ∷ ys → ReadTo s ys
begun s ys e = record {
  behind = ys;
  opened = e;
  within = omega arith;
  onward = (let z : 0 ≡ length ys - length ys = omega arith in subst (Onward ys ys) z (onward_none ys));
}

step_on : (zs vs : List ℕ) → Step zs vs → (length vs < length zs) × Onward zs vs (length zs - length vs)
step_on zs vs (bare x, a, e) =
    let l : length zs ≡ 1 + length vs = ap length e ∙ omega arith in
    let k : 1 ≡ length zs - length vs = omega (arith, l) in
    (omega (arith, l), subst (Onward zs vs) k (subst (λ (v : List ℕ). Onward v vs 1) (sym e) (by_bare x vs a)))
step_on zs vs (escaped x, a, e) =
    let l : length zs ≡ 2 + length vs = ap length e ∙ omega arith in
    let k : 2 ≡ length zs - length vs = omega (arith, l) in
    (omega (arith, l), subst (Onward zs vs) k (subst (λ (v : List ℕ). Onward v vs 2) (sym e) (by_escape x vs a)))

pub read_on : (s zs vs : List ℕ) → ReadTo s zs → Step zs vs → ReadTo s vs × (length vs < length zs)
read_on s zs vs r h =
    let t = step_on zs vs h in
    let k : length r.behind - length zs + (length zs - length vs) ≡ length r.behind - length vs = omega (arith, r.within, t.0) in (
      record {
        behind = r.behind;
        opened = r.opened;
        within = omega (arith, r.within, t.0);
        onward = subst (Onward r.behind vs) k (onward_more r.behind zs vs (length r.behind - length zs) (length zs - length vs) r.onward t.1);
      },
      t.0,
    )

pub read_stuck : (s zs : List ℕ) → ReadTo s zs → ((vs : List ℕ) → zs ≡ 34 ∷ vs → ⊥) → ((vs : List ℕ) → Step zs vs → ⊥) → (m : ℕ) → QuotedAt s m → ⊥
read_stuck s zs r n p m q =
    let b = body_of s r.behind m r.opened q in
    let f = r.onward.forth b.0 b.2 in
    stuck zs f.0 n p f.2

pub read_closed : (s zs vs : List ℕ) → ReadTo s zs → zs ≡ 34 ∷ vs → Only (QuotedAt s) (length s - length vs)
read_closed s zs vs r e =
    let k = length r.behind - length zs in
    let b = r.onward.back 1 (subst (λ (v : List ℕ). Body v 1) (sym e) (closed vs)) in
    let l : 1 + (k + 1) ≡ length s - length vs = omega (arith, ap length r.opened, ap length e, r.within) in
    record {
      holds = subst (QuotedAt s) l (quoted_from s r.behind (k + 1) r.opened b);
      alone = λ m q.
          let c = body_of s r.behind m r.opened q in
          let f = r.onward.forth c.0 c.2 in
          omega (arith, c.1, f.1, closed_only vs f.0 (subst (λ (v : List ℕ). Body v f.0) e f.2), l);
    }
