-- What the theory of runs asks of a net: set expressions that raising a pin never makes false, and no loops.
-- Assumes nothing.
use Rattle.std.specs.Prelude.{◌≡◌, true, false, List, [], ◌∷◌, ℕ, ◌<◌}
use Rattle.runs.specs.Row.{Row}
use Rattle.runs.specs.Net.{Net, IsGate, all_low}
use Rattle.runs.specs.Theory.{◌⊑◌}

-- P holds of every net of a list of pins.
abbrev pub AllPins : (ℕ → Type 0) → List ℕ → Type 0
AllPins P [] = Unit {0}
AllPins P (p ∷ ps) = P p × AllPins P ps

-- `fires_mono`: "raising a pin never lowers an entry" of the table. `fires_local`: a set expression reads only its gate's pins.
-- `fires_low`: it is false where all pins are low. `rank_pins`: every pin of a gate ranks below the gate, so that no gate reaches
-- itself through pins.
pub record Acyclic : Type 0 where
  pub net : Net
  pub fires_mono : (r s : Row) → r ⊑ s → (g : ℕ) → net.fires r g ≡ true → net.fires s g ≡ true
  pub fires_local : (r s : Row) (g : ℕ) → AllPins (λ p. r p ≡ s p) (net.pins g) → net.fires r g ≡ net.fires s g
  pub fires_low : (r : Row) (g : ℕ) → all_low r (net.pins g) ≡ true → net.fires r g ≡ false
  pub rank : ℕ → ℕ
  pub rank_pins : (g : ℕ) → IsGate net g → AllPins (λ p. rank p < rank g) (net.pins g)
