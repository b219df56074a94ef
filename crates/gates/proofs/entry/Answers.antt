-- `gates::entry` meets its contract: the table's rows are what is promised of them. Assumes nothing.
use native.Mathlib.Omega.{arith}
use Rattle.gates.proofs.entry.Goals as goal

pub returns : goal.returns
returns c = c.requires.0.row c.args.cell c.args.pattern (omega arith) (omega arith) (omega arith)
