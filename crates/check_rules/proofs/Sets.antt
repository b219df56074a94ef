-- Sets of registers in numbers: how a loop makes one, and what it says that one lacks some of another.
-- Assumes nothing.
use Prim.Native.Nat.{ℕ, ◌+◌, ◌^◌, ◌≤◌, ◌<◌}
use native.Mathlib.Omega.{arith}
use native.Mathlib.Decide.{ℕ_discrete, dec_lt}
use mathlib.Core.Path.{◌≡◌, refl, sym, ap, ◌∙◌}
use mathlib.Core.Bool.{Bool, true, false, cond, not, ◌&&◌, ◌||◌}
use mathlib.Core.List.{[], ◌∷◌}
use lib.Dec.{eqb, ltb}
use lib.Bits.{bit_and, bit_or, bit_xor}
use borrow.Author.Tests.{eq-eqb, ne_eqb, eqb-true, eqb-false, lt-ltb, le-ltb}
use Rattle.runs.proofs.Test.{clash, not-true, of_not, and_in, and_left, and_right}
use Rattle.verdict.specs.Lists.{numbers, some}
use Rattle.verdict.proofs.Steps.{some_in, some_out}
use Rattle.verdict.proofs.Words.{index_in, in_index}
use Rattle.lane_cells.specs.Lane.{lane}
use Rattle.lane_cells.proofs.Lane.{lane_zero, lane_or}
use Rattle.lane_rise.proofs.Lanes.{some_lane, one_at, one_lane}
use Rattle.check_levels.specs.Graph.{is_ready}
use Rattle.check_levels.proofs.Raising.{ready_known, unready_some}
use Rattle.check_rules.specs.Rules.{SetTo, lacking}

-- two tests that pass together are one
pub together : (a b : Bool) → (a ≡ true → b ≡ true) → (b ≡ true → a ≡ true) → a ≡ b
together true b f g = sym (f refl)
together false true f g = g refl
together false false f g = refl

-- ---- one register after the other

module _ (test : ℕ → Bool) where
  pub set_none : SetTo test 0 0
  set_none i h = lane_zero i ∙ sym (rw (le-ltb i 0 (omega arith)))

  pub set_more : (t set more : ℕ) (add : Bool) → t < 64 → SetTo test t set → add ≡ test t → more ≡ cond add (bit_or set (one_at t)) set → SetTo test (t + 1) more
  set_more t set more add h64 s e m i h = ap (lane i) m ∙ joined add ∙ go (ℕ_discrete i t) (dec_lt i t)
    where
      turn : (a b : Bool) → (a || b) ≡ cond b true a
      turn true true = refl
      turn true false = refl
      turn false true = refl
      turn false false = refl

      same : (a b : Bool) → b ≡ cond a b b
      same true b = refl
      same false b = refl

      joined : (b : Bool) → lane i (cond b (bit_or set (one_at t)) set) ≡ cond (eqb i t) (b || lane i set) (lane i set)
      joined true = lane_or i set (one_at t) ∙ rw (one_lane t i h64 h) (turn (lane i set) (eqb i t))
      joined false = same (eqb i t) (lane i set)

      out : (a b : Bool) → b ≡ false → (a || b) ≡ a
      out true b e = refl
      out false b e = e

      go : Dec (i ≡ t) → Dec (i < t) → cond (eqb i t) (add || lane i set) (lane i set) ≡ cond (ltb i (t + 1)) (test i) false
      go (yes q) l = rw (eq-eqb i t q, lt-ltb i (t + 1) (omega arith)) (out add (lane i set) (s i h ∙ rw (le-ltb i t (omega arith))) ∙ e ∙ ap test (sym q))
      go (no d) (yes l) = rw (ne_eqb i t d, lt-ltb i (t + 1) (omega arith)) (s i h ∙ rw (lt-ltb i t l))
      go (no d) (no l) = rw (ne_eqb i t d, le-ltb i (t + 1) (omega arith)) (s i h ∙ rw (le-ltb i t (omega arith)))

-- ---- what a set holds

module _ (test : ℕ → Bool) (m set : ℕ) (few : m ≤ 64) (s : SetTo test m set) where
  pub set_in_holds : (i : ℕ) → i < m → lane i set ≡ test i
  set_in_holds i h = s i (omega arith) ∙ rw (lt-ltb i m h)

  pub set_out : (i : ℕ) → m ≤ i → i < 64 → lane i set ≡ false
  set_out i h l = s i l ∙ rw (le-ltb i m h)

  -- it is empty exactly if no register passes
  pub set_empty : set < 2 ^ 64 → eqb set 0 ≡ not (some test (numbers 0 m))
  set_empty small = go (eqb set 0) refl
    where
      go : (b : Bool) → eqb set 0 ≡ b → b ≡ not (some test (numbers 0 m))
      go true e = sym (ap not (not-true (some test (numbers 0 m)) (λ q.
          let r = some_out test (numbers 0 m) q in
          clash (set_in_holds r.0 (in_index m r.0 r.1) ∙ r.2) (ap (lane r.0) (eqb-true set 0 e) ∙ lane_zero r.0))))
      go false e = let r = some_lane 64 set small (eqb-false set 0 e) in sym (ap not (at r.0 r.1 r.2 (dec_lt r.0 m)))
        where
          at : (i : ℕ) → i < 64 → lane i set ≡ true → Dec (i < m) → some test (numbers 0 m) ≡ true
          at i l q (yes h) = some_in test (numbers 0 m) i (index_in m i h) (sym (set_in_holds i h) ∙ q)
          at i l q (no h) = absurd (clash q (set_out i (omega arith) l))

-- ---- a set that lacks some of another

module _ (all few : ℕ) where
  abbrev gone : ℕ → Bool
  gone i = lane i few && not (lane i all)

  pub lacks_is : few < 2 ^ 64 → not (eqb (bit_and few (bit_xor few all)) 0) ≡ lacking all few
  lacks_is small = go (is_ready (few ∷ []) all 0) refl
    where
      go : (b : Bool) → is_ready (few ∷ []) all 0 ≡ b → not b ≡ lacking all few
      go true e = sym (not-true (lacking all few) (λ q.
          let r = some_out gone (numbers 0 64) q in
          clash (ready_known (few ∷ []) all 0 e r.0 (and_left (lane r.0 few) (not (lane r.0 all)) r.2))
          (of_not (lane r.0 all) (and_right (lane r.0 few) (not (lane r.0 all)) r.2))))
      go false e =
          let r = unready_some (few ∷ []) all 0 small e in
          sym (some_in gone (numbers 0 64) r.0 (index_in 64 r.0 r.1) (and_in (lane r.0 few) (not (lane r.0 all)) r.2 (ap not r.3)))

  -- where the registers that it lacks are those that pass a test, some of them passes
  pub lacking_some : (m : ℕ) (test : ℕ → Bool) → m ≤ 64 → ((i : ℕ) → i < m → gone i ≡ test i) → ((i : ℕ) → m ≤ i → i < 64 → lane i few ≡ false)
      → lacking all few ≡ some test (numbers 0 m)
  lacking_some m test h inside outside = together (lacking all few) (some test (numbers 0 m)) sound complete
    where
      below : (i : ℕ) → i < 64 → gone i ≡ true → Dec (i < m) → i < m
      below i l e (yes q) = q
      below i l e (no q) = absurd (clash (and_left (lane i few) (not (lane i all)) e) (outside i (omega arith) l))

      sound : lacking all few ≡ true → some test (numbers 0 m) ≡ true
      sound e =
          let r = some_out gone (numbers 0 64) e in
          let l = below r.0 (in_index 64 r.0 r.1) r.2 (dec_lt r.0 m) in
          some_in test (numbers 0 m) r.0 (index_in m r.0 l) (sym (inside r.0 l) ∙ r.2)

      complete : some test (numbers 0 m) ≡ true → lacking all few ≡ true
      complete e =
          let r = some_out test (numbers 0 m) e in
          let l = in_index m r.0 r.1 in
          some_in gone (numbers 0 64) r.0 (index_in 64 r.0 (omega arith)) (inside r.0 l ∙ r.2)
