-- `gates::table` meets its contract: one test that antt computes over the constant's 432 entries. Assumes nothing.
use Rattle.gates.specs.Cell.{cells, cell_at, set_expression, set_bit}
use Rattle.gates.proofs.Patterns.{row_test, gate_table}
use Rattle.gates.proofs.table.Goals as goal

pub returns : goal.returns
unfolding row_test set_bit set_expression cell_at cells
returns c = gate_table _ tt
