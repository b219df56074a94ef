-- `check_rules::find_failing` meets its contract. Assumes nothing.
use borrow.Author.Rules.{rules}
use mathlib.Core.Path.{◌≡◌, ◌∙◌}
use mathlib.Core.List.{[], ◌∷◌}
use Rattle.wiring_spec.specs.Wiring.{uneven, missing, barred}
use Rattle.wiring_spec.specs.Table.{of_registers}
use Rattle.wiring_spec.specs.Parts.{register_count}
use Rattle.verdict.specs.Checks.{first_fault}
use Rattle.verdict.specs.Search.{least}
use Rattle.check_rules.proofs.Later.{fails_at_holds, fails_nowhere}
use Rattle.check_rules.proofs.find_failing.Goals as goal

pub returns-in-Some : goal.returns-in-Some
returns-in-Some c = λ p known.
    let a : c.least.result ≡ least (uneven p) 0 (register_count p) = rw known.sources_of.long at (c.least.ensures (uneven p) (λ j r h q. search rules)) in
    c.fault.ensures ∙ fails_at_holds p 33 uneven (of_registers 34 missing p ∷ of_registers 35 barred p ∷ []) c.least.result a _ c.in-Some.is

pub returns-in-Some-least : goal.returns-in-Some-least
returns-in-Some-least c = λ p known.
    let a : c.least.result ≡ least (uneven p) 0 (register_count p) = rw known.sources_of.long at (c.least.ensures (uneven p) (λ j r h q. search rules)) in
    let b : c.least-2.result ≡ least (missing p) 0 (register_count p) = rw known.sources_of.long at (c.least-2.ensures (missing p) (λ j r h q. search rules)) in
    c.fault-in-Some-least.ensures
    ∙ fails_at_holds p 34 missing (of_registers 35 barred p ∷ []) c.least-2.result b _ c.in-Some-least.is
    ∙ fails_nowhere p 33 uneven (of_registers 34 missing p ∷ of_registers 35 barred p ∷ []) c.least.result a c.in_default.is

pub returns-in-Some-least-2 : goal.returns-in-Some-least-2
returns-in-Some-least-2 c = λ p known.
    let a : c.least.result ≡ least (uneven p) 0 (register_count p) = rw known.sources_of.long at (c.least.ensures (uneven p) (λ j r h q. search rules)) in
    let b : c.least-2.result ≡ least (missing p) 0 (register_count p) = rw known.sources_of.long at (c.least-2.ensures (missing p) (λ j r h q. search rules)) in
    let d : c.least-3.result ≡ least (barred p) 0 (register_count p) = rw known.sources_of.long at (c.least-3.ensures (barred p) (λ j r h q. search rules)) in
    c.fault-in-Some-least-2.ensures
    ∙ fails_at_holds p 35 barred [] c.least-3.result d _ c.in-Some-least-2.is
    ∙ fails_nowhere p 34 missing (of_registers 35 barred p ∷ []) c.least-2.result b c.in_default-least.is
    ∙ fails_nowhere p 33 uneven (of_registers 34 missing p ∷ of_registers 35 barred p ∷ []) c.least.result a c.in_default.is

pub returns : goal.returns
unfolding first_fault
returns c = λ p known.
    let a : c.least.result ≡ least (uneven p) 0 (register_count p) = rw known.sources_of.long at (c.least.ensures (uneven p) (λ j r h q. search rules)) in
    let b : c.least-2.result ≡ least (missing p) 0 (register_count p) = rw known.sources_of.long at (c.least-2.ensures (missing p) (λ j r h q. search rules)) in
    let d : c.least-3.result ≡ least (barred p) 0 (register_count p) = rw known.sources_of.long at (c.least-3.ensures (barred p) (λ j r h q. search rules)) in
    fails_nowhere p 35 barred [] c.least-3.result d c.in_default-least-2.is
    ∙ fails_nowhere p 34 missing (of_registers 35 barred p ∷ []) c.least-2.result b c.in_default-least.is
    ∙ fails_nowhere p 33 uneven (of_registers 34 missing p ∷ of_registers 35 barred p ∷ []) c.least.result a c.in_default.is
