-- `write_joined::kind_at` meets its contract. Assumes nothing.
use native.Mathlib.Omega.{arith}
use mathlib.Core.Path.{sym, ◌∙◌}
use Rattle.write_joined.proofs.kind_at.Goals as goal

pub overflow_cast-cell : goal.overflow_cast-cell
overflow_cast-cell c = omega (arith, c.cell_of-cell.ensures.high)

pub returns-then-has_hold : goal.returns-then-has_hold
returns-then-has_hold c = rw (sym c.has_hold.ensures ∙ c.if-has_hold.true) c.cell_of-cell.ensures.is

pub returns : goal.returns
returns c = rw (sym c.has_hold.ensures ∙ c.if-has_hold.false, c.cell_of-cell.ensures.is)
