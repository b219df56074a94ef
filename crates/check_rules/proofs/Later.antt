-- How a list of checks of registers goes on after the first.
-- Assumes nothing.
use Rattle.std.specs.Prelude.{Option, Some, None, Err}
use Prim.Native.Nat.{ℕ}
use mathlib.Core.Path.{◌≡◌, refl, sym}
use mathlib.Core.Bool.{Bool}
use mathlib.Core.List.{List, ◌∷◌}
use Rattle.verdict.specs.Checks.{Check, verdict, finding, first_fault}
use Rattle.verdict.specs.Search.{least}
use Rattle.circuit_order.proofs.Findings.{passed_on, faulty, found_at, found_nothing}
use Rattle.wiring_spec.specs.Parts.{Pipeline, register_count}
use Rattle.wiring_spec.specs.Table.{of_registers}

module _ (p : Pipeline) (number : ℕ) (fails : Pipeline → ℕ → Bool) (later : List Check) (found : Option ℕ) (is : found ≡ least (fails p) 0 (register_count p)) where
  abbrev one : Check
  one = of_registers number fails p

  pub fails_at_holds : (k : ℕ) → found ≡ Some k → Err (verdict number 1 k 0) ≡ first_fault (one ∷ later)
  unfolding first_fault
  fails_at_holds k e = sym (faulty (finding one) (first_fault later) (verdict number 1 k 0) (found_at one refl found is k e))

  pub fails_nowhere : found ≡ None → first_fault later ≡ first_fault (one ∷ later)
  unfolding first_fault
  fails_nowhere e = sym (passed_on (finding one) (first_fault later) (found_nothing one refl found is e))
