-- `text_lines::cell_named` meets its contract. The loop's invariant: none of the first k cells has the name. Assumes nothing.
use native.Mathlib.Omega.{arith}
use mathlib.Core.Path.{sym, ◌∙◌}
use native.Mathlib.Numerals.{add-one}
use Rattle.text_lines.proofs.LineForms.{unnamed_start, unnamed_here, unnamed_on, unnamed_end}
use Rattle.text_lines.proofs.cell_named.Goals as goal

pub loop-k-init : goal.loop-k-init
loop-k-init c = unnamed_start

pub returns-then-is_cell : goal.returns-then-is_cell
returns-then-is_cell c = (add-one _ ∙ unnamed_here c.loop-k.invariant (omega arith) (sym c.is_cell.ensures ∙ c.if-is_cell.true), omega arith)

pub loop-k-preserved : goal.loop-k-preserved
loop-k-preserved c = unnamed_on c.loop-k.invariant (omega arith) (sym c.is_cell.ensures ∙ c.if-is_cell.false)

pub returns : goal.returns
returns c = (unnamed_end c.loop-k.invariant (omega arith), omega arith)
