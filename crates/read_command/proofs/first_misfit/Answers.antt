-- `read_command::first_misfit` meets its contract. The loop's invariant: the operands before `i` fit, so the search goes on from `i`. Assumes nothing.
use native.Mathlib.Omega.{arith}
use mathlib.Core.Path.{sym, ◌∙◌}
use Rattle.read_command.proofs.Misfits.{misfit_found, misfit_passed, misfit_none}
use Rattle.read_command.proofs.first_misfit.Goals as goal

pub returns-then-misfit : goal.returns-then-misfit
returns-then-misfit c =
    sym (c.loop-i.invariant ∙ misfit_found _ _ _ _ c.loop-i-test.true _ c.operand-v.ensures _ _
    c.misfit.ensures c.if-misfit.true)

pub loop-i-preserved : goal.loop-i-preserved
loop-i-preserved c =
    c.loop-i.invariant ∙ misfit_passed _ _ _ _ c.loop-i-test.true _ c.operand-v.ensures _ _
    c.misfit.ensures c.if-misfit.false

pub returns : goal.returns
returns c = sym (c.loop-i.invariant ∙ misfit_none _ _ _ _ _ (omega arith))
