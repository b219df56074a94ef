-- The checks find nothing in a word exactly if the stage spells the answer there and is input-complete and observable, both in the rise and
-- in the fall.
-- Assumes nothing.
use mathlib.Core.Logic.{◌↔◌}
use mathlib.Core.Bool.{Bool}
use Prim.Native.Nat.{ℕ}
use Rattle.runs.specs.Row.{Row, only, ◌∖◌}
use Rattle.runs.specs.Net.{rails_of_inputs}
use Rattle.runs.specs.Theory.{AllHold}
use Rattle.runs.specs.Settled.{Settled, SettledHeld}
use Rattle.runs.specs.Pair.{AllData, InputsData}
use Rattle.runs.specs.Acyclic.{Acyclic}
use Rattle.runs.specs.Checks.{Passes, FallPasses}
use Rattle.runs.specs.Tight.{Tight, Clear}
use Rattle.runs.specs.Complete.{SomeNull, Conforms}
use Rattle.runs.proofs.Test.{eqb_same}
use Rattle.runs.proofs.Pair.{some_null, some_null_not_all_data, some_not_null, some_not_null_not_all_null}
use Rattle.runs.proofs.Moves.{missing_held}
use Rattle.runs.proofs.Rise.{settled_exists, held_exists, supported-⊑-settled, held_supported}
use Rattle.runs.proofs.Fall.{kept_exists}
use Rattle.runs.proofs.Tight.{tight_held, tight_missing, passes_tight}
use Rattle.runs.proofs.Clear.{clear_kept, clear_late, fall_passes_clear, hold_fall_passes}

module _ (S : Acyclic) (c : Row) (answer : ℕ → Bool) where
  -- a row settled with X held low in which not all outputs are DATA has a NULL output
  held_null : Tight S.net c answer → (X r : Row) → SettledHeld S.net c X r → ¬ (AllData S.net r) → SomeNull S.net r
  held_null t X r held n =
      let R : (R : Row) × Settled S.net c R = settled_exists S c in
      some_null S.net r R.0 answer (t.right R.0 R.1) (supported-⊑-settled S c r R.0 (held_supported S c X r held) R.1) n

  module _ (word : InputsData S.net c) where
    pub tight_conforms : Tight S.net c answer → Clear S.net c → Conforms S.net c answer
    tight_conforms t f = record {
      right = record { some = settled_exists S c; each = t.right };
      complete = record {
        rise = λ A i h a. record {
          some = settled_exists S (c ∖ rails_of_inputs S.net A);
          each = λ r g.
              let held : SettledHeld S.net c (rails_of_inputs S.net A) r = missing_held S.net c A r g in
              held_null t (rails_of_inputs S.net A) r held (tight_missing S c answer word t A i h a r held);
        };
        fall = λ R rest A i h a. record {
          some = kept_exists S c R rest (rails_of_inputs S.net A);
          each = λ r kept. some_not_null S.net r (clear_late S c word f R rest A i h a r kept);
        };
      };
      observable = record {
        rise = λ R rest g h u. record {
          some = held_exists S c (only g);
          each = λ r held. held_null t (only g) r held (tight_held S c answer t R rest (only g) g (eqb_same g) u r held);
        };
        fall = λ R rest g h u. record {
          some = kept_exists S c R rest (only g);
          each = λ r kept. some_not_null S.net r (clear_kept S c f R rest (only g) g (eqb_same g) u r kept);
        };
      };
    }

    pub passes_conforms : Passes S.net c answer → FallPasses S.net c → Conforms S.net c answer
    passes_conforms ok fall-ok = tight_conforms (passes_tight S c answer word ok) (fall_passes_clear S c word fall-ok)

  pub conforms_passes : Conforms S.net c answer → Passes S.net c answer
  conforms_passes k = record {
    right = k.right.each;
    complete = λ i h r g. some_null_not_all_data S.net r ((k.complete.rise (only i) i h (eqb_same i)).each r g);
    observable = λ R rest g h u r held. some_null_not_all_data S.net r ((k.observable.rise R rest g h u).each r held);
  }

  pub conforms_fall_passes : Conforms S.net c answer → FallPasses S.net c
  conforms_fall_passes k = record {
    complete = λ R rest i h r kept. some_not_null_not_all_null S.net r ((k.complete.fall R rest (only i) i h (eqb_same i)).each r kept);
    observable = λ R rest g h u r kept. some_not_null_not_all_null S.net r ((k.observable.fall R rest g h u).each r kept);
  }

-- The checks find nothing in the word exactly if the stage conforms there.
pub checks_conforms : (S : Acyclic) (c : Row) (answer : ℕ → Bool) → InputsData S.net c
    → (Passes S.net c answer × FallPasses S.net c) ↔ Conforms S.net c answer
checks_conforms S c answer word = (λ ok. passes_conforms S c answer word ok.0 ok.1, λ k. (conforms_passes S c answer k, conforms_fall_passes S c answer k))

-- Where every gate has hold, 13 to 15 are enough.
pub hold_checks_conforms : (S : Acyclic) (c : Row) (answer : ℕ → Bool) → InputsData S.net c → AllHold S.net
    → Passes S.net c answer ↔ Conforms S.net c answer
hold_checks_conforms S c answer word hold = (λ ok. passes_conforms S c answer word ok (hold_fall_passes S c answer word hold ok), conforms_passes S c answer)
