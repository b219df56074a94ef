-- `check_files::least_retired` meets its contract. The loop's invariant: no gate before k is of a retired kind. Assumes nothing.
use native.Mathlib.Omega.{arith}
use mathlib.Core.Path.{sym, ap, ◌∙◌}
use Rattle.gates.specs.Cell.{is_retired}
use Rattle.verdict.specs.Search.{least}
use Rattle.verdict.proofs.Least.{sought_on, sought_here, sought_none}
use Rattle.check_files.proofs.Judging.{retired_in}
use Rattle.check_files.proofs.least_retired.Goals as goal

pub loop-k-init : goal.loop-k-init
loop-k-init c = ap (least _ 0) (omega arith)

pub returns-then-is_retired : goal.returns-then-is_retired
returns-then-is_retired c =
    sought_here _ _ _ c.loop-k-test.true c.loop-k.invariant
    (retired_in _ _ _ c.loop-k-test.true ∙ sym (c.is_retired.ensures ∙ ap is_retired c.cell_of.ensures.is) ∙ c.if-is_retired.true)

pub loop-k-preserved : goal.loop-k-preserved
loop-k-preserved c =
    sought_on _ _ _ c.loop-k-test.true c.loop-k.invariant
    (retired_in _ _ _ c.loop-k-test.true ∙ sym (c.is_retired.ensures ∙ ap is_retired c.cell_of.ensures.is) ∙ c.if-is_retired.false)

pub returns : goal.returns
returns c = sought_none _ _ _ (omega (arith, c.loop-k-test.false)) c.loop-k.invariant
