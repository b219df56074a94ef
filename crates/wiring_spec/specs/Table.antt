-- 33, 34 and 35 as rows of the table of checks that the code goes by.
use Rattle.std.specs.Prelude.{ℕ, Bool, List, [], ◌∷◌}
use Rattle.verdict.specs.Checks.{Check, check}
use Rattle.wiring_spec.specs.Parts.{Pipeline}
use Rattle.wiring_spec.specs.Wiring.{registers, circular, uneven, missing, barred}

abbrev pub of_registers : ℕ → (Pipeline → ℕ → Bool) → Pipeline → Check
of_registers number fails p = check number 1 (0 ∷ []) (registers p) (λ w. fails p)

unfoldable pub wiring_checks : Pipeline → List Check
wiring_checks p = of_registers 33 circular p ∷ of_registers 33 uneven p ∷ of_registers 34 missing p ∷ of_registers 35 barred p ∷ []
