-- Levels in rounds: in round l those registers are found whose level is l.
-- Assumes nothing.
use Prim.Native.Nat.{ℕ, suc, ◌+◌, ◌^◌, ◌≤◌, ◌<◌, min}
use native.Mathlib.Omega.{arith}
use native.Mathlib.Decide.{ℕ_discrete, dec_le}
use mathlib.Core.Path.{◌≡◌, refl, sym, ap, ◌∙◌}
use mathlib.Core.Bool.{Bool, true, false, cond, not, ◌&&◌, ◌||◌}
use mathlib.Core.Logic.{◌⊎◌, inl, inr}
use mathlib.Core.List.{List}
use lib.ListN.{length, get_or, set, length-set}
use lib.Seq.{get_or-set_same, get_or-set_other}
use lib.Dec.{eqb, leb, ltb}
use lib.Bits.{bit_and, bit_or, bit_xor, and_le_l}
use borrow.Author.Tests.{eq-eqb, ne_eqb, eqb-true, eqb-false, le-leb, lt-leb, leb-true, leb-false, lt-ltb, le-ltb}
use Rattle.runs.proofs.Test.{clash, and_left, and_right}
use Rattle.lane_cells.specs.Lane.{lane}
use Rattle.lane_cells.proofs.Lane.{lane_zero, lane_and, lane_or, lane_xor, unlike}
use Rattle.lane_rise.proofs.Lanes.{some_lane, one_at, one_lane}
use Rattle.wiring_spec.specs.Parts.{Pipeline, register_count}
use Rattle.wiring_spec.specs.Wiring.{sources, level}
use Rattle.wiring_spec.specs.Passing.{Reaches, ReachesOn}
use Rattle.wiring_spec.proofs.Passing.{reaches_sound, reaches_complete, source_inside}
use Rattle.wiring_spec.proofs.Levels.{level_of, level_bound}
use Rattle.check_levels.specs.Graph.{source_in, SourcesOf, is_ready, RaisedTo}

-- ---- one register after the other

pub raised_none : (sources : List ℕ) (known level : ℕ) (levels : List ℕ) → RaisedTo sources known level levels levels 0 0
raised_none sources known level levels =
    record { long = refl; noted = λ i h. lane_zero i ∙ sym (rw (le-ltb i 0 (omega arith))); done = λ i h. absurd (omega arith); rest = λ i h. refl }

module _ (sources : List ℕ) (known level : ℕ) (before levels : List ℕ) (next t : ℕ) (r : RaisedTo sources known level before levels next t) (h : t < length before) (h64 : t < 64) where
  abbrev ready : ℕ → Bool
  ready = is_ready sources known

  note : (v : ℕ) (b : Bool) → ready t ≡ b → ((i : ℕ) → i < 64 → lane i v ≡ cond (eqb i t) b (lane i next)) → (i : ℕ) → i < 64 → lane i v ≡ cond (ltb i (t + 1)) (ready i) false
  note v b e f i l = f i l ∙ go (ℕ_discrete i t) (dec_le i t)
    where
      go : Dec (i ≡ t) → Dec (i ≤ t) → cond (eqb i t) b (lane i next) ≡ cond (ltb i (t + 1)) (ready i) false
      go (yes q) m = rw (eq-eqb i t q, lt-ltb i (t + 1) (omega arith)) (sym e ∙ ap ready (sym q))
      go (no d) (yes m) = rw (ne_eqb i t d, lt-ltb i (t + 1) (omega arith)) (r.noted i l ∙ rw (lt-ltb i t (omega arith)))
      go (no d) (no m) = rw (ne_eqb i t d, le-ltb i (t + 1) (omega arith)) (r.noted i l ∙ rw (le-ltb i t (omega arith)))

  pub raised_known : ready t ≡ true → RaisedTo sources known level before levels (bit_or next (one_at t)) (t + 1)
  raised_known e = record {
    long = r.long;
    noted = note (bit_or next (one_at t)) true e (λ i l. lane_or i next (one_at t) ∙ rw (one_lane t i h64 l) (turn (lane i next) (eqb i t)));
    done = λ i l. go i l (ℕ_discrete i t);
    rest = λ i l. r.rest i (omega arith);
  }
    where
      turn : (a b : Bool) → (a || b) ≡ cond b true a
      turn true true = refl
      turn true false = refl
      turn false true = refl
      turn false false = refl

      go : (i : ℕ) → i < t + 1 → Dec (i ≡ t) → get_or levels i 0 ≡ cond (ready i) (get_or before i 0) level
      go i l (yes q) = rw (q, e) (r.rest t (omega arith))
      go i l (no d) = r.done i (omega arith)

  pub raised_other : ready t ≡ false → RaisedTo sources known level before (set levels t level) next (t + 1)
  raised_other e = record {
    long = simp length-set r.long;
    noted = note next false e (λ i l. go i l (ℕ_discrete i t));
    done = λ i l. done i l (ℕ_discrete i t);
    rest = λ i l. get_or-set_other levels t i level 0 (omega arith) ∙ r.rest i (omega arith);
  }
    where
      go : (i : ℕ) → i < 64 → Dec (i ≡ t) → lane i next ≡ cond (eqb i t) false (lane i next)
      go i l (yes q) = rw (eq-eqb i t q) (r.noted i l ∙ rw (le-ltb i t (omega arith)))
      go i l (no d) = rw (ne_eqb i t d)

      done : (i : ℕ) → i < t + 1 → Dec (i ≡ t) → get_or (set levels t level) i 0 ≡ cond (ready i) (get_or before i 0) level
      done i l (yes q) = rw (q, e) (get_or-set_same levels t level 0 (omega (arith, r.long)))
      done i l (no d) = get_or-set_other levels t i level 0 d ∙ r.done i (omega arith)

-- ---- all sources are known, or some is not

module _ (sources : List ℕ) (known t : ℕ) where
  abbrev own : ℕ
  own = get_or sources t 0

  lane-left : (k : ℕ) → lane k (bit_and own (bit_xor own known)) ≡ (lane k own && unlike (lane k own) (lane k known))
  lane-left k = lane_and k own (bit_xor own known) ∙ rw (lane_xor k own known)

  pub ready_known : is_ready sources known t ≡ true → (k : ℕ) → source_in sources k t ≡ true → lane k known ≡ true
  ready_known e k s =
      go (lane k known) (sym (ap (lane k) (eqb-true (bit_and own (bit_xor own known)) 0 e) ∙ lane_zero k) ∙ lane-left k ∙ rw s)
    where
      go : (b : Bool) → false ≡ (true && not b) → b ≡ true
      go true e = refl
      go false e = absurd (clash refl (sym e ∙ refl))

  pub unready_some : own < 2 ^ 64 → is_ready sources known t ≡ false → (k : ℕ) × (k < 64) × (source_in sources k t ≡ true) × (lane k known ≡ false)
  unready_some small e =
      let r = some_lane 64 (bit_and own (bit_xor own known)) small' (eqb-false (bit_and own (bit_xor own known)) 0 e) in
      let b = sym (lane-left r.0) ∙ r.2 in
      let s = and_left (lane r.0 own) (unlike (lane r.0 own) (lane r.0 known)) b in
      (r.0, r.1, s, go (lane r.0 own) (lane r.0 known) s (and_right (lane r.0 own) (unlike (lane r.0 own) (lane r.0 known)) b))
    where
      small' : bit_and own (bit_xor own known) < 2 ^ 64
      small' = omega (arith, and_le_l own (bit_xor own known))

      go : (a b : Bool) → a ≡ true → unlike a b ≡ true → b ≡ false
      go true true e f = absurd (clash f refl)
      go true false e f = refl
      go false b e f = absurd (clash e refl)

-- ---- round by round

-- after r rounds those registers are known whose level is r at most, and the others have level r + 1
pub record Round (p : Pipeline) (levels : List ℕ) (known r : ℕ) : Type 0 where
  pub levelled : (t : ℕ) → t < register_count p → get_or levels t 0 ≡ min (r + 1) (level p t)
  pub known_are : (t : ℕ) → t < register_count p → lane t known ≡ leb (level p t) r

module _ (p : Pipeline) (forward : (k : ℕ) → ¬ (ReachesOn p k k)) where
  pub positive : (t : ℕ) → t < register_count p → 1 ≤ level p t
  positive t h = go (level_of p forward t h).next
    where
      go : (((k : ℕ) → ¬ (Reaches p k t)) × (level p t ≡ 1)) ⊎ ((k : ℕ) × Reaches p k t × (level p t ≡ suc (level p k))) → 1 ≤ level p t
      go (inl e) = omega (arith, e.1)
      go (inr r) = omega (arith, r.2)

  pub round_none : (levels : List ℕ) → ((t : ℕ) → t < register_count p → get_or levels t 0 ≡ 1) → Round p levels 0 0
  round_none levels one = record {
    levelled = λ t h. omega (arith, one t h, positive t h);
    known_are = λ t h. lane_zero t ∙ sym (lt-leb (level p t) 0 (positive t h));
  }

  module _ (sources : List ℕ) (few : register_count p ≤ 64) (of : SourcesOf p sources) (small : (t : ℕ) → get_or sources t 0 < 2 ^ 64) where
    pub round_more : (before levels : List ℕ) (known next r : ℕ) → RaisedTo sources known (r + 2) before levels next (register_count p) → Round p before known r → Round p levels next (r + 1)
    round_more before levels known next r w o = record { levelled = λ t h. (go t h (is_ready sources known t) refl).0; known_are = λ t h. (go t h (is_ready sources known t) refl).1 }
      where
        high : (t : ℕ) → t < register_count p → is_ready sources known t ≡ true → level p t ≤ r + 1
        high t h e = at (level_of p forward t h).next
          where
            at : (((k : ℕ) → ¬ (Reaches p k t)) × (level p t ≡ 1)) ⊎ ((k : ℕ) × Reaches p k t × (level p t ≡ suc (level p k))) → level p t ≤ r + 1
            at (inl q) = omega (arith, q.1)
            at (inr (k, a, q)) =
                let i = source_inside p k t a in
                let l = leb-true (level p k) r (sym (o.known_are k i) ∙ ready_known sources known t e k (of.each k t (omega arith) h ∙ reaches_complete p k t a)) in
                omega arith

        low : (t : ℕ) → t < register_count p → is_ready sources known t ≡ false → r + 1 < level p t
        low t h e =
            let s = unready_some sources known t (small t) e in
            let a = reaches_sound p s.0 t (sym (of.each s.0 t s.1 h) ∙ s.2) in
            let l = leb-false (level p s.0) r (sym (o.known_are s.0 (source_inside p s.0 t a)) ∙ s.3) in
            omega (arith, (level_of p forward t h).above s.0 a)

        go : (t : ℕ) → t < register_count p → (b : Bool) → is_ready sources known t ≡ b → (get_or levels t 0 ≡ min (r + 1 + 1) (level p t)) × (lane t next ≡ leb (level p t) (r + 1))
        go t h true e =
            let l = high t h e in
            let a : get_or levels t 0 ≡ get_or before t 0 = w.done t h ∙ rw e in
            (omega (arith, o.levelled t h), w.noted t (omega arith) ∙ rw (lt-ltb t (register_count p) h, e, le-leb (level p t) (r + 1) l))
        go t h false e =
            let l = low t h e in
            let a : get_or levels t 0 ≡ r + 2 = w.done t h ∙ rw e in
            (omega arith, w.noted t (omega arith) ∙ rw (lt-ltb t (register_count p) h, e, lt-leb (level p t) (r + 1) l))

  -- as many rounds as there are registers find all
  pub round_all : (levels : List ℕ) (known r : ℕ) → register_count p ≤ r → Round p levels known r → (t : ℕ) → t < register_count p → get_or levels t 0 ≡ level p t
  round_all levels known r l o t h = omega (arith, o.levelled t h, level_bound p t)
