-- `gates::is_retired` meets its contract. Assumes nothing.
use mathlib.Core.Path.{sym, ap}
use native.Mathlib.Omega.{arith}
use borrow.Author.Tests.{ne_eqb}
use Rattle.gates.specs.Cell.{retired_cells, among, is_retired}
use Rattle.gates.proofs.is_retired.Goals as goal

pub returns-in-24 : goal.returns-in-24
unfolding is_retired among retired_cells
returns-in-24 c = sym (ap is_retired c.in-24.is)

pub returns-in_default : goal.returns-in_default
unfolding is_retired among retired_cells
returns-in_default c = rw (ne_eqb c.args.cell 24 (λ e. omega arith))
