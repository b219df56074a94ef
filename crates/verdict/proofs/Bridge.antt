-- From lists of levels to the theory of runs: a stage without loops is one of its stages, the settled rows are its settled rows, and
-- the checks say of pairs what it says of them.
-- Assumes nothing.
use Prim.Native.Nat.{ℕ, zero, suc, ◌+◌, ◌-◌, ◌*◌, ◌/◌, ◌≤◌, ◌<◌}
use native.Mathlib.Omega.{arith}
use native.Mathlib.Decide.{ℕ_discrete}
use mathlib.Core.Path.{◌≡◌, refl, sym, ap, ap₂, ◌∙◌, subst}
use mathlib.Core.Bool.{Bool, true, false, not, ◌&&◌}
use mathlib.Core.Logic.{inl, inr}
use mathlib.Core.List.{List, [], ◌∷◌, ◌++◌, map}
use lib.ListN.{length, get_or, set, length-append, length-map, get_or-append, get_or-eq_default}
use lib.Seq.{get_or-append-add, get_or-set_same, get_or-set_other}
use lib.Dec.{eqb, ltb}
use borrow.Author.Tests.{lt-ltb, eq-eqb, ne_eqb, eqb-false}
use Rattle.gates.specs.Expression.{holds}
use Rattle.gates.specs.Cell.{set_expression, bit}
use Rattle.gates.proofs.Expressions.{holds_mono, holds_low}
use Rattle.runs.specs.Row as run
use Rattle.runs.specs.Row.{Row, ◌∖◌}
use Rattle.runs.specs.Theory.{◌⊑◌}
use Rattle.runs.specs.Net.{IsGate, all_low, rails_of_inputs}
use Rattle.runs.specs.Settled as runs
use Rattle.runs.specs.Pair as pair
use Rattle.runs.specs.Acyclic.{Acyclic, AllPins}
use Rattle.runs.proofs.Rise.{settled_by, held_by, settled_cong}
use Rattle.netlist.specs.Content.{Gate, Pair, Stage}
use Rattle.verdict.specs.Rows.{high, with_null, is_set, settled_levels, levels_holding, settled, settled_holding, dual_rail, pair_in, is_data, is_null, spells}
use Rattle.verdict.specs.Loops.{In, pins_at, LoopFree}
use Rattle.verdict.specs.Nets.{no_gate, driver, set_in, rail_of, net_of, row_of}
use Rattle.verdict.proofs.Levels.{bits_length}
use Rattle.verdict.proofs.Reaching.{rank_of, rank_pin}
use Rattle.verdict.proofs.Settling.{settled_bits, settled_is, holding_bits, holding_settled}
use Rattle.verdict.proofs.Words.{null_length, null_high}

clash : {b : Bool} → b ≡ true → b ≡ false → ⊥
clash p q = let z : ◌≡◌ {A = ℕ} 0 1 = cc in omega arith

-- ---- set expressions on rows

pub pins_mono : (r s : Row) → r ⊑ s → (pins : List ℕ) (i : ℕ) → get_or (map r pins) i false ≡ true → get_or (map s pins) i false ≡ true
pins_mono r s h [] i e = e
pins_mono r s h (p ∷ pins) zero e = h p e
pins_mono r s h (p ∷ pins) (suc i) e = pins_mono r s h pins i e

pub pins_local : (r s : Row) (pins : List ℕ) → AllPins (λ p. r p ≡ s p) pins → map r pins ≡ map s pins
pins_local r s [] h = refl
pins_local r s (p ∷ pins) h = ap₂ {C = List Bool} (λ a b. a ∷ b) h.0 (pins_local r s pins h.1)

pub pins_low : (r : Row) (pins : List ℕ) → all_low r pins ≡ true → (i : ℕ) → get_or (map r pins) i false ≡ false
pins_low r [] e i = refl
pins_low r (p ∷ pins) e i = go (r p) refl e i (pins_low r pins)
  where
    go : (b : Bool) → r p ≡ b → (not b && all_low r pins) ≡ true → (i : ℕ) → (all_low r pins ≡ true → (i : ℕ) → get_or (map r pins) i false ≡ false) → get_or (r p ∷ map r pins) i false ≡ false
    go true q e i later = absurd (clash e refl)
    go false q e zero later = q
    go false q e (suc i) later = later e i

-- ---- a stage without loops, in the theory of runs

module _ (s : Stage) (free : LoopFree s.inputs s.gates) where
  pins-driver : (k : ℕ) → (driver s k).pins ≡ pins_at s.gates (k - 2 * s.inputs)
  pins-driver k = go s.gates (k - 2 * s.inputs)
    where
      go : (gates : List Gate) (j : ℕ) → (get_or gates j no_gate).pins ≡ pins_at gates j
      go [] j = refl
      go (g ∷ gates) zero = refl
      go (g ∷ gates) (suc j) = go gates j

  all_in : (P : ℕ → Type 0) (pins : List ℕ) → ((p : ℕ) → In p pins → P p) → AllPins P pins
  all_in P [] h = tt
  all_in P (p ∷ pins) h = (h p (inl refl), all_in P pins (λ q i. h q (inr i)))

  abbrev pub rank : ℕ → ℕ
  rank = rank_of s.inputs s.gates

  pub rank_pins : (k : ℕ) → IsGate (net_of s) k → AllPins (λ p. rank p < rank k) (driver s k).pins
  rank_pins k is = all_in (λ p. rank p < rank k) (driver s k).pins below
    where
      below : (p : ℕ) → In p (driver s k).pins → rank p < rank k
      below p i =
          let e : 2 * s.inputs + (k - 2 * s.inputs) ≡ k = omega (arith, is.0) in
          subst (λ (x : ℕ). rank p < rank x) e (rank_pin s.inputs s.gates free p (k - 2 * s.inputs) (subst (In p) (pins-driver k) i))

  abbrev pub stage_in : Acyclic
  stage_in = record {
    net = net_of s;
    fires_mono = λ r t h k. holds_mono (set_expression (driver s k).cell) (λ i. get_or (map r (driver s k).pins) i false) (λ i. get_or (map t (driver s k).pins) i false) (pins_mono r t h (driver s k).pins);
    fires_local = λ r t k h. ap (λ (l : List Bool). holds (set_expression (driver s k).cell) (λ i. get_or l i false)) (pins_local r t (driver s k).pins h);
    fires_low = λ r k e. holds_low (set_expression (driver s k).cell) (λ i. get_or (map r (driver s k).pins) i false) (pins_low r (driver s k).pins e);
    rank = rank;
    rank_pins = rank_pins;
  }

-- ---- settled rows

pub high_bit : (b : Bool) → ltb 0 (bit b) ≡ b
high_bit true = refl
high_bit false = refl

-- the level of gate k in a round is its set expression
set_at : (row : List ℕ) (gates : List Gate) (k : ℕ) → k < length gates → high (map (is_set row) gates) k ≡ set_in (row_of row) (get_or gates k no_gate)
unfolding is_set
set_at row [] k h = absurd (omega arith)
set_at row (g ∷ gates) zero h = high_bit (holds (set_expression g.cell) (λ i. get_or (map (row_of row) g.pins) i false))
set_at row (g ∷ gates) (suc k) h = set_at row gates k (omega arith)

module _ (s : Stage) (wires : List ℕ) (long : length wires ≡ 2 * s.inputs) where
  pub rail_high : (levels : List ℕ) (k : ℕ) → k < 2 * s.inputs → high (wires ++ levels) k ≡ high wires k
  rail_high levels k h = ap (λ (x : ℕ). ltb 0 x) (get_or-append wires levels 0 k (omega arith))

  pub gate_high : (levels : List ℕ) (k : ℕ) → 2 * s.inputs ≤ k → high (wires ++ levels) k ≡ high levels (k - 2 * s.inputs)
  gate_high levels k h =
      let e : k ≡ length wires + (k - 2 * s.inputs) = omega arith in
      ap (λ (x : ℕ). high (wires ++ levels) x) e ∙ ap (λ (x : ℕ). ltb 0 x) (get_or-append-add wires levels (k - 2 * s.inputs) 0)

  pub past_low : (levels : List ℕ) → length levels ≡ length s.gates → (k : ℕ) → 2 * s.inputs + length s.gates ≤ k → high (wires ++ levels) k ≡ false
  past_low levels e k h = ap (λ (x : ℕ). ltb 0 x) (get_or-eq_default (wires ++ levels) 0 (omega (arith, length-append wires levels)))

  -- the computed row is settled for its rails
  pub settled_row_holds : runs.Settled (net_of s) (row_of wires) (row_of (settled s.gates wires))
  settled_row_holds = settled_by (net_of s) (row_of wires) (row_of (settled s.gates wires))
      (rail_high (settled_levels s.gates wires))
      (λ k is. gate_high (settled_levels s.gates wires) k is.0
      ∙ ap (λ (l : List ℕ). high l (k - 2 * s.inputs)) (sym (settled_is s.gates wires))
      ∙ set_at (settled s.gates wires) s.gates (k - 2 * s.inputs) (omega (arith, is.0, is.1)))
      (past_low (settled_levels s.gates wires) (bits_length (length s.gates) (settled_levels s.gates wires) (settled_bits s.gates wires)))

  -- and with a gate held low
  pub held_row_holds : (g : ℕ) → g < length s.gates → runs.SettledHeld (net_of s) (row_of wires) (run.only (2 * s.inputs + g)) (row_of (settled_holding g s.gates wires))
  held_row_holds g hg = held_by (net_of s) (row_of wires) (run.only (2 * s.inputs + g)) (row_of (settled_holding g s.gates wires))
      (λ k h. rail_high levels k h ∙ sym (ap (λ (b : Bool). high wires k && not b) (ne_eqb k (2 * s.inputs + g) (λ e. omega arith)) ∙ and-true (high wires k)))
      (λ k is. gate_high levels k is.0 ∙ ap (λ (l : List ℕ). high l (k - 2 * s.inputs)) (sym (holding_settled g s.gates wires)) ∙ gate k is.0 is.1 (ℕ_discrete k (2 * s.inputs + g)))
      (past_low levels (bits_length (length s.gates) levels (holding_bits g s.gates wires)))
    where
      levels : List ℕ
      levels = levels_holding g s.gates wires

      and-true : (x : Bool) → (x && true) ≡ x
      and-true true = refl
      and-true false = refl

      and-false : (x : Bool) → (x && false) ≡ false
      and-false true = refl
      and-false false = refl

      row : List ℕ
      row = map (is_set (settled_holding g s.gates wires)) s.gates

      gate : (k : ℕ) → 2 * s.inputs ≤ k → k < 2 * s.inputs + length s.gates → Dec (k ≡ 2 * s.inputs + g)
          → high (set row g 0) (k - 2 * s.inputs) ≡ (set_in (row_of (settled_holding g s.gates wires)) (driver s k) && not (eqb k (2 * s.inputs + g)))
      gate k h h' (yes e) =
          let f : k - 2 * s.inputs ≡ g = omega arith in
          ap (high (set row g 0)) f ∙ ap (λ (x : ℕ). ltb 0 x) (get_or-set_same row g 0 0 (omega (arith, length-map s.gates (is_set (settled_holding g s.gates wires)))))
          ∙ sym (ap (λ (b : Bool). set_in (row_of (settled_holding g s.gates wires)) (driver s k) && not b) (eq-eqb k (2 * s.inputs + g) e) ∙ and-false (set_in (row_of (settled_holding g s.gates wires)) (driver s k)))
      gate k h h' (no d) =
          ap (λ (x : ℕ). ltb 0 x) (get_or-set_other row g (k - 2 * s.inputs) 0 0 (λ e. d (omega arith)))
          ∙ set_at (settled_holding g s.gates wires) s.gates (k - 2 * s.inputs) (omega arith)
          ∙ sym (ap (λ (b : Bool). set_in (row_of (settled_holding g s.gates wires)) (driver s k) && not b) (ne_eqb k (2 * s.inputs + g) d) ∙ and-true (set_in (row_of (settled_holding g s.gates wires)) (driver s k)))

-- with some inputs missing
pub missing_row_holds : (s : Stage) (wires : List ℕ) → length wires ≡ 2 * s.inputs → (missing : ℕ → Bool)
    → runs.Settled (net_of s) (row_of wires ∖ rails_of_inputs (net_of s) missing) (row_of (settled s.gates (with_null missing wires)))
missing_row_holds s wires long missing =
    settled_cong (net_of s) (row_of (with_null missing wires)) (row_of wires ∖ rails_of_inputs (net_of s) missing)
    (λ k h. null_high missing s.inputs wires long k ∙ ap (λ (b : Bool). high wires k && not (b && missing (k / 2))) (sym (lt-ltb k (2 * s.inputs) h)))
    (row_of (settled s.gates (with_null missing wires)))
    (settled_row_holds s (with_null missing wires) (null_length missing s.inputs wires long))

-- ---- pairs

module _ (row : List ℕ) (p : Pair) where
  pub data_in : is_data (pair_in row p) ≡ true → pair.Data (row_of row) (rail_of p)
  data_in e = go (high row p.rail0) (high row p.rail1) e
    where
      go : (a b : Bool) → is_data (dual_rail a b) ≡ true → a ≡ not b
      go true true e = absurd (clash e refl)
      go true false e = refl
      go false true e = refl
      go false false e = absurd (clash e refl)

  pub null_in : is_null (pair_in row p) ≡ true → pair.Null (row_of row) (rail_of p)
  null_in e = go (high row p.rail0) (high row p.rail1) e
    where
      go : (a b : Bool) → is_null (dual_rail a b) ≡ true → (a ≡ false) × (b ≡ false)
      go true true e = absurd (clash e refl)
      go true false e = absurd (clash e refl)
      go false true e = absurd (clash e refl)
      go false false e = (refl, refl)

  -- the pair of a bit's DATA spells it
  pub spells_out : (value : ℕ) → value ≤ 1 → pair.DataOf (row_of row) (rail_of p) (eqb value 1) → spells (pair_in row p) value ≡ true
  spells_out value h d = go (eqb value 1) refl d
    where
      go : (b : Bool) → eqb value 1 ≡ b → pair.DataOf (row_of row) (rail_of p) b → spells (pair_in row p) value ≡ true
      go true e d = rw (d.0, d.1) e
      go false e d = rw (d.0, d.1) (eq-eqb value 0 (omega (arith, eqb-false value 1 e)))
