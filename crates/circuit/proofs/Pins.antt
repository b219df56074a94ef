-- The level of a gate by the pattern of its pins: those that it lacks are at the ground, and so low.
-- Assumes nothing.
use Prim.Native.Nat.{ℕ, zero, suc, ◌+◌, ◌-◌, ◌*◌, ◌/◌, ◌%◌, ◌^◌, ◌≤◌, ◌<◌}
use native.Mathlib.Omega.{arith}
use native.Mathlib.Decide.{dec_lt}
use mathlib.Core.Path.{◌≡◌, refl, sym, ap, ◌∙◌}
use mathlib.Core.Bool.{Bool, true, false, ◌&&◌}
use mathlib.Core.List.{List, [], ◌∷◌, map}
use lib.ListN.{length, get_or, take, get_or-eq_default}
use lib.Seq.{get_or-take, length-take-le}
use lib.Dec.{T, eqb, ltb, leb, leb→le}
use Rattle.gates.specs.Cell.{cells, cell_at, pin_count, set_expression, pin_of, bit, set_bit}
use Rattle.gates.proofs.Expressions.{holds_local}
use Rattle.gates.proofs.Every.{every, every_at}
use Rattle.netlist.specs.declared.Counts.{Counts}
use Rattle.verdict.specs.Rows.{high, pin_high, is_set}
use Rattle.circuit.specs.Stage.{net_count, cell_in, pin_in, gate_in, StageLoaded}
use Rattle.circuit.specs.Rows.{RowFor, nets_in, LevelOf, pattern_in}
use Rattle.circuit.specs.declared.form.Pins.{Pins}
use Rattle.circuit.specs.Form.{pins_in}

-- ---- cells have two to four pins

few : ℕ → Bool
few i = leb 2 (pin_count (1 + i)) && leb (pin_count (1 + i)) 4

all_few : T (every few 27)
unfolding few pin_count cell_at cells
all_few = tt

both : (a b : Bool) → T (a && b) → T a × T b
both true true t = (tt, tt)
both true false t = absurd t
both false b t = absurd t

pub pins_few : (c : ℕ) → 1 ≤ c → c ≤ 27 → (2 ≤ pin_count c) × (pin_count c ≤ 4)
unfolding few
pins_few c lo hi =
    let e : 1 + (c - 1) ≡ c = omega arith in
    let t = rw e at (every_at few 27 all_few (c - 1) (omega arith)) in
    let b = both (leb 2 (pin_count c)) (leb (pin_count c) 4) t in
    (leb→le 2 (pin_count c) b.0, leb→le (pin_count c) 4 b.1)

-- ---- four levels of which those from pin m on are low

pattern_below : (m a b c d : ℕ) → 2 ≤ m → m ≤ 4 → a ≤ 1 → b ≤ 1 → c ≤ 1 → d ≤ 1 → (m ≤ 2 → c ≡ 0) → (m ≤ 3 → d ≡ 0) →
    a + 2 * b + 4 * c + 8 * d < 2 ^ m
pattern_below zero a b c d two four la lb lc ld c0 d0 = absurd (omega arith)
pattern_below (suc zero) a b c d two four la lb lc ld c0 d0 = absurd (omega arith)
pattern_below (suc (suc zero)) a b c d two four la lb lc ld c0 d0 = omega (arith, c0 (omega arith), d0 (omega arith))
pattern_below (suc (suc (suc zero))) a b c d two four la lb lc ld c0 d0 = omega (arith, d0 (omega arith))
pattern_below (suc (suc (suc (suc zero)))) a b c d two four la lb lc ld c0 d0 = omega arith
pattern_below (suc (suc (suc (suc (suc m))))) a b c d two four la lb lc ld c0 d0 = absurd (omega arith)

-- a level of 0 or 1 is the bit of whether it is high
level_high : (x : ℕ) → x ≤ 1 → eqb x 1 ≡ ltb 0 x
level_high zero h = refl
level_high (suc zero) h = refl
level_high (suc (suc x)) h = absurd (omega arith)

pub first_pins : (f : ℕ → Bool) (l : List ℕ) (m i : ℕ) → i < m → i < length l → get_or (map f (take m l)) i false ≡ f (get_or l i 0)
first_pins f [] m i h l = absurd (omega arith)
first_pins f (p ∷ ps) zero i h l = absurd (omega arith)
first_pins f (p ∷ ps) (suc m) zero h l = refl
first_pins f (p ∷ ps) (suc m) (suc i) h l = first_pins f ps m i (omega arith) (omega arith)

pub no_pins : (f : ℕ → Bool) (l : List ℕ) (m i : ℕ) → m ≤ i → get_or (map f (take m l)) i false ≡ false
no_pins f l zero i h = refl
no_pins f [] (suc m) i h = refl
no_pins f (p ∷ ps) (suc m) zero h = absurd (omega arith)
no_pins f (p ∷ ps) (suc m) (suc i) h = no_pins f ps m i (omega arith)

-- ---- the levels of the nets and of the ground, which stands after them

module _ (c : Counts) (row : List ℕ) (r : RowFor c row) where
  pub nets_at : (p : ℕ) → p ≤ net_count c → get_or (nets_in c row) p 0 ≡ get_or row p 0
  nets_at p h = go (dec_lt p (net_count c))
    where
      go : Dec (p < net_count c) → get_or (nets_in c row) p 0 ≡ get_or row p 0
      go (yes l) = get_or-take (net_count c) row p 0 l
      go (no l) =
          let e : net_count c ≡ p = omega arith in
          get_or-eq_default (nets_in c row) 0 (omega (arith, length-take-le (net_count c) row (omega (arith, r.long)))) ∙ sym r.ground
          ∙ ap (λ (q : ℕ). get_or row q 0) e

  pub net_there : (p : ℕ) → p ≤ net_count c → (p < length row) × (get_or row p 0 ≤ 1)
  net_there p h = (omega (arith, r.long), r.bit p h)

  pub level_in : (p x : ℕ) → p ≤ net_count c → LevelOf row p x → LevelOf (nets_in c row) p x
  level_in p x h l = record { is = l.is ∙ sym (nets_at p h); small = l.small }

module _ (c : Counts) (code row : List ℕ) (loaded : StageLoaded c code) (r : RowFor c row) (k : ℕ) (h : k < c.gates) where
  abbrev nets : List ℕ
  nets = nets_in c row

  abbrev m : ℕ
  m = pin_count (cell_in code k)

  level : (i : ℕ) → i < 4 → get_or nets (pin_in code k i) 0 ≡ get_or row (pin_in code k i) 0
  level i l = nets_at c row r (pin_in code k i) ((loaded.gate k h).pin i l)

  bit_at : (i : ℕ) → i < 4 → get_or nets (pin_in code k i) 0 ≤ 1
  bit_at i l = omega (arith, level i l, r.bit (pin_in code k i) ((loaded.gate k h).pin i l))

  low : (i : ℕ) → m ≤ i → i < 4 → get_or nets (pin_in code k i) 0 ≡ 0
  low i a l = level i l ∙ ap (λ (p : ℕ). get_or row p 0) ((loaded.gate k h).absent i a l) ∙ r.ground

  pub pattern_nets : (p : Pins) → p ≡ pins_in code k → get_or row p.a 0 + 2 * get_or row p.b 0 + 4 * get_or row p.c 0 + 8 * get_or row p.d 0 ≡ pattern_in nets code k
  pattern_nets p is = rw is (omega (arith, level 0 (omega arith), level 1 (omega arith), level 2 (omega arith), level 3 (omega arith)))

  pub pattern_small : pattern_in nets code k < 2 ^ m
  pattern_small =
      let g = loaded.gate k h in
      let f = pins_few (cell_in code k) g.low g.high in
      pattern_below m (get_or nets (pin_in code k 0) 0) (get_or nets (pin_in code k 1) 0) (get_or nets (pin_in code k 2) 0) (get_or nets (pin_in code k 3) 0)
      f.0 f.1 (bit_at 0 (omega arith)) (bit_at 1 (omega arith)) (bit_at 2 (omega arith)) (bit_at 3 (omega arith)) (λ a. low 2 a (omega arith))
      (λ a. low 3 a (omega arith))

  -- pin i of the pattern is pin i of the gate
  pin_is : (i : ℕ) → i < 4 → get_or (pin_in code k 0 ∷ pin_in code k 1 ∷ pin_in code k 2 ∷ pin_in code k 3 ∷ []) i 0 ≡ pin_in code k i →
      pattern_in nets code k / 2 ^ i % 2 ≡ get_or nets (pin_in code k i) 0 → pin_of (pattern_in nets code k) i ≡ pin_high nets (gate_in code k) i
  pin_is i l e v = ap (λ (y : ℕ). eqb y 1) v ∙ level_high (get_or nets (pin_in code k i) 0) (bit_at i l) ∙ sym (go (dec_lt i m))
    where
      go : Dec (i < m) → pin_high nets (gate_in code k) i ≡ high nets (pin_in code k i)
      go (yes a) = first_pins (high nets) _ m i a (omega arith) ∙ ap (high nets) e
      go (no a) = no_pins (high nets) _ m i (omega arith) ∙ sym (ap (ltb 0) (low i (omega arith) l))

  pub level_by_pattern : set_bit (cell_in code k) (pattern_in nets code k) ≡ is_set nets (gate_in code k)
  unfolding set_bit is_set
  level_by_pattern =
      let a = bit_at 0 (omega arith) in
      let b = bit_at 1 (omega arith) in
      let d = bit_at 2 (omega arith) in
      let f = bit_at 3 (omega arith) in
      ap bit
      (holds_local (set_expression (cell_in code k)) (pin_of (pattern_in nets code k)) (pin_high nets (gate_in code k))
      (pin_is 0 (omega arith) refl (omega arith))
      (pin_is 1 (omega arith) refl (omega arith))
      (pin_is 2 (omega arith) refl (omega arith))
      (pin_is 3 (omega arith) refl (omega arith)))
