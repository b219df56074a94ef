-- `check_wiring::is_circular` meets its contract. Assumes nothing.
use native.Mathlib.Omega.{arith}
use mathlib.Core.Path.{sym, ◌∙◌}
use Rattle.check_wiring.proofs.Circular.{circular_itself, circular_ki}
use Rattle.check_wiring.proofs.is_circular.Goals as goal

pub returns-then-is_source : goal.returns-then-is_source
returns-then-is_source c = λ p o from. circular_itself p _ _ _ o _ from _ (omega (arith, o.registers_are, c.requires.1)) (sym c.is_source.ensures ∙ c.if-is_source.true)

pub returns : goal.returns
returns c = λ p o from.
    c.waits.ensures ∙ circular_ki p _ _ _ o _ from _ (omega (arith, o.registers_are, c.requires.1)) (sym c.is_source.ensures ∙ c.if-is_source.false)
