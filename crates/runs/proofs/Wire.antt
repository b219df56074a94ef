-- The wire of document 01 (case 2) keeps the promise in every word; with a gate that feeds nothing (case 8) it breaks it at that gate.
-- Assumes nothing.
use mathlib.Core.Path.{◌≡◌, refl, ap, ◌∙◌}
use mathlib.Core.Logic.{inl}
use mathlib.Core.Bool.{Bool, true, false, not, ◌||◌}
use mathlib.Core.List.{[], ◌∷◌}
use Prim.Native.Nat.{ℕ, ◌<◌}
use native.Mathlib.Omega.{arith}
use Rattle.runs.specs.Row.{Row, ◌∖◌, only}
use Rattle.runs.specs.Net.{Net, input_rail, rails_of_inputs}
use Rattle.runs.specs.Theory.{word_rails}
use Rattle.runs.specs.Settled.{Settled}
use Rattle.runs.specs.Pair.{AllData, Reads}
use Rattle.runs.specs.Acyclic.{Acyclic}
use Rattle.runs.specs.Checks.{Passes}
use Rattle.runs.specs.Promise.{Promise}
use Rattle.runs.specs.Witness.{Unobservable}
use Rattle.runs.proofs.Test.{eqb_same}
use Rattle.runs.proofs.Net.{rails_of_inputs_in, word_rails_0, word_rails_1}
use Rattle.runs.proofs.Pair.{word_rails_data, null_not_data}
use Rattle.runs.proofs.Moves.{missing_held}
use Rattle.runs.proofs.Rise.{settled_rail, held_low}
use Rattle.runs.proofs.Promise.{promise_not_unobservable, passes_promise}

-- ---- one input, wired out

abbrev pub wire : Net
wire = record { inputs = 1; gates = 0; outputs = 1; rail = λ j. input_rail 0; pins = λ g. []; fires = λ r g. false; hold = λ g. true }

abbrev pub wire_stage : Acyclic
wire_stage = record {
  net = wire;
  fires_mono = λ r s o g e. e;
  fires_local = λ r s g h. refl;
  fires_low = λ r g h. refl;
  rank = λ k. 0;
  rank_pins = λ g h. tt;
}

module _ (w : ℕ → Bool) where
  wire_right : (R : Row) → Settled wire (word_rails w) R → Reads wire R (λ j. w 0)
  wire_right R rest j h = shown (w 0) refl
    where
      at_0 : R 0 ≡ not (w 0)
      at_0 = settled_rail wire (word_rails w) R rest 0 (omega arith) ∙ word_rails_0 w 0

      at_1 : R 1 ≡ w 0
      at_1 = settled_rail wire (word_rails w) R rest 1 (omega arith) ∙ word_rails_1 w 0

      shown : (b : Bool) → w 0 ≡ b → (R (input_rail 0 b) ≡ true) × (R (input_rail 0 (not b)) ≡ false)
      shown true e = (at_1 ∙ e, at_0 ∙ ap not e)
      shown false e = (at_0 ∙ ap not e, at_1 ∙ e)

  wire_complete : (i : ℕ) → i < 1 → (r : Row) → Settled wire (word_rails w ∖ rails_of_inputs wire (only i)) r → ¬ (AllData wire r)
  wire_complete i h r g d = null_not_data r (input_rail 0) (off false, off true) (d 0 (omega arith))
    where
      zero_is : only i 0 ≡ true
      zero_is = let e : i ≡ 0 = omega arith in rw e (eqb_same 0)

      off : (b : Bool) → r (input_rail 0 b) ≡ false
      off b = held_low wire_stage (word_rails w) (rails_of_inputs wire (only i)) r (missing_held wire (word_rails w) (only i) r g) (input_rail 0 b) (rails_of_inputs_in wire (only i) 0 b (omega arith) zero_is)

  wire_passes : Passes wire (word_rails w) (λ j. w 0)
  wire_passes = record { right = wire_right; complete = wire_complete; observable = λ R rest g h. absurd (omega arith) }

  pub wire_promise : Promise wire (word_rails w) (λ j. w 0)
  wire_promise = passes_promise wire_stage (word_rails w) (λ j. w 0) (word_rails_data wire w) wire_passes (inl (λ g h. refl))

-- ---- and a gate TH12 on its rails that feeds nothing

abbrev pub dangling : Net
dangling = record { inputs = 1; gates = 1; outputs = 1; rail = λ j. input_rail 0; pins = λ g. 0 ∷ 1 ∷ []; fires = λ r g. r 0 || r 1; hold = λ g. true }

-- in word 0: rail 0 rises, the output is DATA, and the gate, net 2, has yet to rise
dangling_unobservable : Unobservable dangling (word_rails (λ i. false)) 2
dangling_unobservable = (0 ∷ [], record { legal = (refl, tt); all_data_holds = λ j h. refl; gate_low = refl; set = refl })

pub dangling_breaks : (answer : ℕ → Bool) → ¬ (Promise dangling (word_rails (λ i. false)) answer)
dangling_breaks answer keeps = promise_not_unobservable dangling (word_rails (λ i. false)) answer keeps 2 (omega arith) dangling_unobservable
