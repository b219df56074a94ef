-- The rows of a word that the checks look at, as computed, are settled as the paper words it.
-- Assumes nothing.
use Prim.Native.Nat.{ℕ, ◌+◌, ◌*◌, ◌/◌, ◌<◌}
use native.Mathlib.Omega.{arith}
use mathlib.Core.Path.{◌≡◌, refl, sym, ap, ◌∙◌}
use mathlib.Core.Bool.{Bool, true, false, not, ◌&&◌}
use mathlib.Core.Logic.{◌⊎◌, inl, inr, ◌≢◌}
use lib.ListN.{length}
use lib.Dec.{eqb}
use borrow.Author.Tests.{eq-eqb, lt-ltb, le-ltb}
use Rattle.runs.specs.Row.{◌∖◌, only}
use Rattle.runs.specs.Net.{rails_of_inputs, input_rail}
use Rattle.runs.specs.Theory.{word_rails}
use Rattle.runs.specs.Settled.{Settled, SettledHeld, SettledKept}
use Rattle.runs.specs.Pair.{InputsData}
use Rattle.runs.proofs.Test.{eqb_other, same?}
use Rattle.runs.proofs.Pair.{word_rails_data}
use Rattle.netlist.specs.Content.{Stage}
use Rattle.verdict.specs.Rows.{high}
use Rattle.verdict.specs.Words.{bits_of, rails_in}
use Rattle.verdict.specs.Nets.{net_of, row_of, rails_for, rest_row, missing_row, held_row}
use Rattle.verdict.specs.Falls.{fallen_but, fallen_keeping}
use Rattle.verdict.proofs.Words.{bits_of_length, bits_of_bit, rails_length, rails_word}
use Rattle.verdict.proofs.Bridge.{settled_row_holds, held_row_holds, missing_row_holds}
use Rattle.verdict.proofs.Falls.{fallen_settled}

module _ (s : Stage) (w : ℕ) where
  pub wires_length : length (rails_in s w) ≡ 2 * s.inputs
  wires_length = rails_length (bits_of s.inputs w) ∙ ap (λ (n : ℕ). 2 * n) (bits_of_length s.inputs w)

  pub wires_data : InputsData (net_of s) (rails_for s w)
  wires_data i h = wire (input_rail i false) (omega arith) ∙ word_rails_data (net_of s) (high (bits_of s.inputs w)) i h ∙ ap not (sym (wire (input_rail i true) (omega arith)))
    where
      wire : (k : ℕ) → k < 2 * s.inputs → high (rails_in s w) k ≡ word_rails (high (bits_of s.inputs w)) k
      wire k l = rails_word (bits_of s.inputs w) (bits_of_bit s.inputs w) k (omega (arith, bits_of_length s.inputs w))

  -- the computed rows are settled as the paper words it
  pub rest_settled : Settled (net_of s) (rails_for s w) (rest_row s w)
  rest_settled = settled_row_holds s (rails_in s w) wires_length

  pub missing_settled : (i : ℕ) → Settled (net_of s) (rails_for s w ∖ rails_of_inputs (net_of s) (only i)) (missing_row s w i)
  missing_settled i = missing_row_holds s (rails_in s w) wires_length (only i)

  pub held_settled : (g : ℕ) → g < length s.gates → SettledHeld (net_of s) (rails_for s w) (only (2 * s.inputs + g)) (held_row s w g)
  held_settled = held_row_holds s (rails_in s w) wires_length

  pub but_settled : (i : ℕ) → SettledKept (net_of s) (rails_of_inputs (net_of s) (only i)) (rest_row s w) (row_of (fallen_but s w i))
  but_settled i = fallen_settled s w wires_length (λ k. not (eqb k i)) (λ g. false) (rails_of_inputs (net_of s) (only i))
      (λ k h. ap (λ (b : Bool). b && eqb (k / 2) i) (lt-ltb k (2 * s.inputs) h) ∙ twice (eqb (k / 2) i))
      (λ g. ap (λ (b : Bool). b && eqb ((2 * s.inputs + g) / 2) i) (le-ltb (2 * s.inputs + g) (2 * s.inputs) (omega arith)))
    where
      twice : (b : Bool) → b ≡ not (not b)
      twice true = refl
      twice false = refl

  pub keeping_settled : (g : ℕ) → SettledKept (net_of s) (only (2 * s.inputs + g)) (rest_row s w) (row_of (fallen_keeping s w g))
  keeping_settled g = fallen_settled s w wires_length (λ k. true) (only g) (only (2 * s.inputs + g)) (λ k h. eqb_other k (2 * s.inputs + g) (λ e. omega arith))
      (λ k. same (same? k g))
    where
      same : {k : ℕ} → (k ≡ g) ⊎ (k ≢ g) → eqb (2 * s.inputs + k) (2 * s.inputs + g) ≡ eqb k g
      same {k} (inl e) = eq-eqb (2 * s.inputs + k) (2 * s.inputs + g) (omega arith) ∙ sym (eq-eqb k g e)
      same {k} (inr n) = eqb_other (2 * s.inputs + k) (2 * s.inputs + g) (λ e. n (omega arith)) ∙ sym (eqb_other k g n)
