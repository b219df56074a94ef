-- What 33, 34 and 35 test and what registers are as wires is what the paper says, of any pipeline; and one without registers passes.
-- Assumes nothing.
use Prim.Native.Nat.{ℕ}
use native.Mathlib.Omega.{arith}
use mathlib.Core.Path.{◌≡◌, ap, ◌∙◌}
use mathlib.Core.Logic.{inl}
use mathlib.Core.List.{[]}
use Rattle.runs.proofs.Test.{clash}
use Rattle.wiring_spec.specs.Parts.{Pipeline, Driver, registers_of, register_count}
use Rattle.wiring_spec.specs.Wiring.{circular}
use Rattle.wiring_spec.specs.Passing.{ReachesOn, Nowhere, Passes, WiringMeans}
use Rattle.wiring_spec.specs.Wires.{wire_of, resolve, WiresMean}
use Rattle.wiring_spec.proofs.Passing.{on_inside, circular_sound, circular_complete, uneven_sound, uneven_complete, missing_sound, missing_complete, barred_sound, barred_complete, passes_exactly}
use Rattle.wiring_spec.proofs.Levels.{level_of}
use Rattle.wiring_spec.proofs.Wires.{resolve_wire, resolve_inside, resolve_own}

-- the first pass of 33 finds no register that reaches itself
pub forward : (p : Pipeline) → Nowhere p (circular p) → (k : ℕ) → ¬ (ReachesOn p k k)
forward p none k r = clash (circular_complete p k (inl r)) (none k (on_inside p k r))

pub wiring_means : (p : Pipeline) → WiringMeans p
wiring_means p = record {
  circular_is = λ k. (circular_sound p k, circular_complete p k);
  uneven_is = λ t. (uneven_sound p t, uneven_complete p t);
  missing_is = λ k. (missing_sound p k, missing_complete p k);
  barred_is = λ k. (barred_sound p k, barred_complete p k);
  passes_exactly = passes_exactly p;
  levels = λ none t h. level_of p (forward p none) t h;
}

-- and registers come to what the paper says
pub wires_mean : (p : Pipeline) → WiresMean p
unfolding wire_of
wires_mean p = record {
  own = resolve_own p;
  as_data = λ none x k b e. resolve_wire p (forward p none) x ∙ ap (λ (d : Driver). resolve p (wire_of p x d)) e;
  ends = λ none named. resolve_inside p named (forward p none);
}

pub passes_none : (p : Pipeline) → p.parts ≡ [] → Passes p
unfolding register_count registers_of
passes_none p none =
    let few : register_count p ≡ 0 = rw none in
    (passes_exactly p).1 (record { circular = λ k h. absurd (omega arith); uneven = λ k h. absurd (omega arith); missing = λ k h. absurd (omega arith); barred = λ k h. absurd (omega arith) })
