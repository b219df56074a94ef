-- Placing the gates: all of them wait; one that no waiting gate feeds takes the next place; and a pass over all of them.
-- Assumes nothing.
use Prim.Native.Nat.{ℕ, zero, suc, ◌+◌, ◌*◌, ◌≤◌, ◌<◌}
use native.Mathlib.Omega.{arith}
use Rattle.std.proofs.lemmas.Slice.{put_mid-paste}
use Rattle.std.proofs.lemmas.List.Edits.{paste_none, fill_from_more}
use borrow.Rule.Slice.PartMut.{put_mid}
use native.Mathlib.Decide.{ℕ_discrete, dec_lt}
use mathlib.Core.Path.{◌≡◌, refl, sym, ap, ◌∙◌, subst}
use mathlib.Core.Bool.{Bool, true, false, ◌&&◌, not}
use mathlib.Core.List.{List}
use lib.ListN.{length, get_or, set, replicate, length-replicate}
use lib.Seq.{paste, get_or-set_same, get_or-set_other}
use lib.Dec.{ltb}
use borrow.Author.Tests.{ltb-true, lt-ltb}
use Rattle.netlist.specs.declared.Counts.{Counts}
use Rattle.netlist.specs.Reading.{stage_limits, Within}
use Rattle.verdict.specs.Rows.{high}
use Rattle.verdict.specs.Loops.{pins_at, Feeds}
use Rattle.verdict.proofs.Graph.{any_high_in}
use Rattle.circuit.specs.Stage.{net_count, gate_at_place, place_of, stage_gates, StageLoaded}
use Rattle.circuit.specs.Rows.{row_size}
use Rattle.circuit.specs.Form.{GatePlaced}
use Rattle.circuit.proofs.Reordering.{gates_kept, loaded_kept}
use Rattle.circuit_order.proofs.Feeding.{marks_set}
use Rattle.circuit_order.specs.Marks.{Unmarked, fed_by}
use Rattle.circuit_order.specs.Placing.{WaitTo, Waits, Gone, Placing, is_ready}
use Rattle.circuit_order.proofs.Sums.{sum_none, sum_set}

pub never : {b : Bool} → b ≡ true → b ≡ false → ⊥
never p q = let z : ◌≡◌ {A = ℕ} 0 1 = cc in omega arith

-- ---- marks on the nets

-- a mark is changed, and the others are not
pub high_other : (v : List ℕ) (at x p : ℕ) → (p ≡ at → ⊥) → high (set v at x) p ≡ high v p
high_other v at x p d = ap (ltb 0) (get_or-set_other v at p x 0 d)

pub high_same : (v : List ℕ) (at x : ℕ) → at < length v → high (set v at x) at ≡ ltb 0 x
high_same v at x h = ap (ltb 0) (get_or-set_same v at x 0 h)

pub low : (v : List ℕ) (p : ℕ) → ¬ (high v p ≡ true) → get_or v p 0 ≡ 0
low v p h = go (dec_lt 0 (get_or v p 0))
  where
    go : Dec (0 < get_or v p 0) → get_or v p 0 ≡ 0
    go (yes l) = absurd (h (lt-ltb 0 (get_or v p 0) l))
    go (no l) = omega arith

-- ---- all wait

-- the marks of a stage within the limits, in an array of zeros
pub fresh : (c : Counts) → Within stage_limits c → Unmarked c (replicate row_size 0)
fresh c w = record {
  marks_for = record {
    long = length-replicate {A = ℕ} row_size 0;
    room = omega (arith, w.inputs_in, w.gates_in_holds);
    bit = λ p. omega (arith, zeros row_size p);
    ground = zeros row_size (net_count c);
  };
  none = zeros row_size;
}
  where
    zeros : (m p : ℕ) → ◌≡◌ {A = ℕ} (get_or (replicate m 0) p 0) 0
    zeros zero p = refl
    zeros (suc m) zero = refl
    zeros (suc m) (suc p) = zeros m p

module _ (c : Counts) where
  pub wait_none : (marks : List ℕ) → Unmarked c marks → WaitTo c marks 0
  wait_none marks u = record {
    marks_for = u.marks_for;
    total = sum_none marks u.none;
    all = λ k h. absurd (omega arith);
    only = λ p h. absurd (omega (arith, u.none p, ltb-true 0 (get_or marks p 0) h));
  }

  module _ (marks : List ℕ) (m : ℕ) (w : WaitTo c marks m) (h : m < c.gates) where
    abbrev next : ℕ
    next = 2 * c.inputs + m

    next-in : next < length marks
    next-in = omega (arith, w.marks_for.long, w.marks_for.room)

    unmarked : get_or marks next 0 ≡ 0
    unmarked = low marks next (λ e. let r = w.only next e in omega (arith, r.1, r.2))

    all' : (k : ℕ) → k < m + 1 → Dec (k ≡ m) → high (set marks next 1) (2 * c.inputs + k) ≡ true
    all' k l (yes e) = rw e (high_same marks next 1 next-in)
    all' k l (no d) = high_other marks next 1 (2 * c.inputs + k) (λ e. d (omega arith)) ∙ w.all k (omega arith)

    one_more : (p : ℕ) → high (set marks next 1) p ≡ true → Dec (p ≡ next) → (k : ℕ) × (k < m + 1) × (p ≡ 2 * c.inputs + k)
    one_more p e (yes q) = (m, omega arith, q)
    one_more p e (no d) = let r = w.only p (sym (high_other marks next 1 p d) ∙ e) in (r.0, omega (arith, r.1), r.2)

    pub wait_more : WaitTo c (set marks (2 * c.inputs + m) 1) (m + 1)
    wait_more = record {
      marks_for = marks_set c marks w.marks_for next 1 (omega arith) (omega arith);
      total = omega (arith, w.total, sum_set marks next 1 next-in, unmarked);
      all = λ k l. all' k l (ℕ_discrete k m);
      only = λ p e. one_more p e (ℕ_discrete p next);
    }

  -- the first m of the gates' places filled with 1
  wait_to : (marks : List ℕ) → Unmarked c marks → (m : ℕ) → m ≤ c.gates → WaitTo c (paste marks (2 * c.inputs) (replicate m 1) m) m
  wait_to marks u zero h = subst (λ (v : List ℕ). WaitTo c v 0) (paste_none marks (2 * c.inputs) (replicate 0 1)) (wait_none marks u)
  wait_to marks u (suc m) h =
      let e : m + 1 ≡ suc m = omega arith in
      subst (λ (k : ℕ). WaitTo c (paste marks (2 * c.inputs) (replicate k 1) k) k) e
      (subst (λ (v : List ℕ). WaitTo c v (m + 1)) (fill_from_more marks (2 * c.inputs) m 1 (omega (arith, u.marks_for.long, u.marks_for.room)))
      (wait_more (paste marks (2 * c.inputs) (replicate m 1) m) m (wait_to marks u m (omega arith)) (omega arith)))

  -- all of them
  pub wait_filled : (marks part : List ℕ) (n : ℕ) → Unmarked c marks → n ≡ c.gates → part ≡ replicate n 1 → WaitTo c (put_mid (2 * c.inputs) n marks part) c.gates
  wait_filled marks part n u e f =
      subst (λ (v : List ℕ). WaitTo c v c.gates) (sym (put_mid-paste (2 * c.inputs) n marks part (replicate c.gates 1) c.gates (f ∙ ap (λ (k : ℕ). replicate k 1) e) (sym e) (sym (length-replicate {A = ℕ} c.gates 1))))
      (wait_to marks u c.gates (omega arith))

  pub placing_start : (code waiting : List ℕ) → StageLoaded c code → WaitTo c waiting c.gates → Placing c code waiting 0
  placing_start code waiting l w = record {
    loaded = l;
    marks_for = w.marks_for;
    total = omega (arith, w.total);
    only = w.only;
    taken = λ i h. absurd (omega arith);
    stands = λ k h g. absurd (never (w.all k h) g);
    earlier = λ j k hj hk g. absurd (never (w.all k hk) g);
  }

-- ---- one gate

ready : (a b : Bool) → (a && not b) ≡ true → (a ≡ true) × (b ≡ false)
ready true true e = absurd (never e refl)
ready true false e = (refl, refl)
ready false b e = absurd (never e refl)

module _ (c : Counts) (code waiting : List ℕ) (placed : ℕ) (p : Placing c code waiting placed) (k : ℕ) (hk : k < c.gates) (r : is_ready c code waiting k ≡ true) where
  abbrev net : ℕ
  net = 2 * c.inputs + k

  waits : Waits c waiting k
  waits = (ready (high waiting net) (fed_by (stage_gates c code) waiting k) r).0

  unfed : fed_by (stage_gates c code) waiting k ≡ false
  unfed = (ready (high waiting net) (fed_by (stage_gates c code) waiting k) r).1

  one : get_or waiting net 0 ≡ 1
  one = omega (arith, ltb-true 0 (get_or waiting net 0) waits, p.marks_for.bit net)

  inside : net < length waiting
  inside = omega (arith, p.marks_for.long, p.marks_for.room)

  -- there is a place left
  pub place_left : placed < c.gates
  place_left = omega (arith, p.total, one, sum_set waiting net 0 inside)

  abbrev waiting' : List ℕ
  waiting' = set waiting net 0

  gone_new : Gone c waiting' k
  gone_new = high_same waiting net 0 inside

  -- another gate waits as before; one that is gone is another
  gone_old : (m : ℕ) → ¬ (m ≡ k) → high waiting' (2 * c.inputs + m) ≡ high waiting (2 * c.inputs + m)
  gone_old m d = high_other waiting net 0 (2 * c.inputs + m) (λ e. d (omega arith))

  other : (m : ℕ) → Gone c waiting m → ¬ (m ≡ k)
  other m g e = never waits (rw e at g)

  only' : (q : ℕ) → high waiting' q ≡ true → Dec (q ≡ net) → (m : ℕ) × (m < c.gates) × (q ≡ 2 * c.inputs + m)
  only' q h (yes e) = absurd (never (rw e at h) gone_new)
  only' q h (no d) = p.only q (sym (high_other waiting net 0 q d) ∙ h)

  -- it has taken its place
  module _ (code' : List ℕ) (there : GatePlaced c code code' k placed) where
    abbrev Taken : ℕ → ℕ → Type 0
    Taken i m = (m < c.gates) × Gone c waiting' m × (place_of code' m ≡ i)

    taken' : (i : ℕ) → i < placed + 1 → Dec (i ≡ placed) → Taken i (gate_at_place code' i)
    taken' i h (yes e) = rw e (subst (Taken placed) (sym there.gate_new) (hk, gone_new, there.place_new))
    taken' i h (no d) =
        let t = p.taken i (omega arith) in
        let o = other (gate_at_place code i) t.1 in
        subst (Taken i) (sym (there.gate_old i d)) (t.0, gone_old (gate_at_place code i) o ∙ t.1, there.place_old (gate_at_place code i) o ∙ t.2)

    stands' : (m : ℕ) → m < c.gates → Gone c waiting' m → Dec (m ≡ k) →
        (place_of code' m < placed + 1) × (gate_at_place code' (place_of code' m) ≡ m)
    stands' m h g (yes e) = rw e (omega (arith, there.place_new), ap (gate_at_place code') there.place_new ∙ there.gate_new)
    stands' m h g (no d) =
        let s = p.stands m h (sym (gone_old m d) ∙ g) in
        (omega (arith, s.0, there.place_old m d), ap (gate_at_place code') (there.place_old m d) ∙ there.gate_old (place_of code m) (λ e. omega (arith, s.0)) ∙ s.1)

    earlier' : (j m : ℕ) → j < c.gates → m < c.gates → Gone c waiting' m → Feeds c.inputs (stage_gates c code) j m → Dec (m ≡ k) →
        Gone c waiting' j × (place_of code' j < place_of code' m)
    earlier' j m hj hm g f (yes e) =
        let gone : Gone c waiting j = low_mark j (rw e at f) in
        let o = other j gone in
        (gone_old j o ∙ gone, rw e (omega (arith, (p.stands j hj gone).0, there.place_old j o, there.place_new)))
      where
        low_mark : (j : ℕ) → Feeds c.inputs (stage_gates c code) j k → Gone c waiting j
        low_mark j f = go (high waiting (2 * c.inputs + j)) refl
          where
            go : (b : Bool) → high waiting (2 * c.inputs + j) ≡ b → b ≡ false
            go true h = absurd (never (any_high_in waiting (pins_at (stage_gates c code) k) (2 * c.inputs + j) f h) unfed)
            go false h = refl
    earlier' j m hj hm g f (no d) =
        let e = p.earlier j m hj hm (sym (gone_old m d) ∙ g) f in
        let o = other j e.0 in
        (gone_old j o ∙ e.0, omega (arith, e.1, there.place_old j o, there.place_old m d))

    pub placing_more : Placing c code' waiting' (placed + 1)
    placing_more = record {
      loaded = loaded_kept c code code' there.reordered p.loaded;
      marks_for = marks_set c waiting p.marks_for net 0 (omega arith) (omega arith);
      total = omega (arith, p.total, one, sum_set waiting net 0 inside);
      only = λ q h. only' q h (ℕ_discrete q net);
      taken = λ i h. taken' i h (ℕ_discrete i placed);
      stands = λ m h g. stands' m h g (ℕ_discrete m k);
      earlier = λ j m hj hm g f. earlier' j m hj hm g (rw (gates_kept c code code' there.reordered) at f) (ℕ_discrete m k);
    }
