-- A gate's set expression in a row grows with the row and depends on the gate's pins alone.
-- Assumes nothing.
use Prim.Native.Nat.{ℕ, zero, suc, ◌≤◌}
use mathlib.Core.Path.{◌≡◌, refl, ap, ap₂}
use mathlib.Core.Bool.{Bool, true, false}
use mathlib.Core.Logic.{inl, inr}
use mathlib.Core.List.{List, [], ◌∷◌, map}
use lib.ListN.{length, get_or}
use Rattle.gates.specs.Expression.{holds}
use Rattle.gates.specs.Cell.{set_expression, bit}
use Rattle.gates.proofs.Expressions.{holds_mono}
use Rattle.netlist.specs.Content.{Gate}
use Rattle.verdict.specs.Rows.{high, pin_high, is_set}
use Rattle.verdict.specs.Loops.{In, pins_at}
use Rattle.verdict.specs.Levels.{Bits, Below}
use Rattle.verdict.specs.Nets.{no_gate}
use Rattle.verdict.proofs.Levels.{high_mono, bit-≤-1, bit_mono, below_get}

pub pins_mono : (u v : List ℕ) → Below u v → (pins : List ℕ) (i : ℕ) → get_or (map (high u) pins) i false ≡ true → get_or (map (high v) pins) i false ≡ true
pins_mono u v h [] i e = e
pins_mono u v h (p ∷ pins) zero e = high_mono u v (below_get u v h) p e
pins_mono u v h (p ∷ pins) (suc i) e = pins_mono u v h pins i e

pub set_rises : (u v : List ℕ) → Below u v → (gates : List Gate) → Below (map (is_set u) gates) (map (is_set v) gates)
unfolding is_set
set_rises u v h [] = tt
set_rises u v h (g ∷ gates) =
    let e = set_expression g.cell in
    let more = holds_mono e (pin_high u g) (pin_high v g) (pins_mono u v h g.pins) in
    (bit_mono (holds e (pin_high u g)) (holds e (pin_high v g)) more, set_rises u v h gates)

pub is_set_binary : (u : List ℕ) (g : Gate) → is_set u g ≤ 1
unfolding is_set
is_set_binary u g = bit-≤-1 (holds (set_expression g.cell) (pin_high u g))

pub set_bits : (u : List ℕ) (gates : List Gate) → Bits (length gates) (map (is_set u) gates)
set_bits u [] = tt
set_bits u (g ∷ gates) = (is_set_binary u g, set_bits u gates)

-- ---- one gate

pub map_local : (u v pins : List ℕ) → ((p : ℕ) → In p pins → high u p ≡ high v p) → map (high u) pins ≡ map (high v) pins
map_local u v [] h = refl
map_local u v (p ∷ pins) h = ap₂ {C = List Bool} (λ a b. a ∷ b) (h p (inl refl)) (map_local u v pins (λ q i. h q (inr i)))

pub is_set_local : (u v : List ℕ) (g : Gate) → ((p : ℕ) → In p g.pins → high u p ≡ high v p) → is_set u g ≡ is_set v g
unfolding is_set
is_set_local u v g h = ap (λ (l : List Bool). bit (holds (set_expression g.cell) (λ i. get_or l i false))) (map_local u v g.pins h)

-- the level of gate k depends on its pins alone
pub set_local : (u v : List ℕ) (gates : List Gate) (k : ℕ) → ((p : ℕ) → In p (pins_at gates k) → high u p ≡ high v p) → get_or (map (is_set u) gates) k 0 ≡ get_or (map (is_set v) gates) k 0
set_local u v [] k h = refl
set_local u v (g ∷ gates) zero h = is_set_local u v g h
set_local u v (g ∷ gates) (suc k) h = set_local u v gates k h

-- the pins of gate k
pub pins_at_holds : (gates : List Gate) (k : ℕ) → pins_at gates k ≡ (get_or gates k no_gate).pins
pins_at_holds [] k = refl
pins_at_holds (g ∷ gates) zero = refl
pins_at_holds (g ∷ gates) (suc k) = pins_at_holds gates k
