-- `text_lines::names` meets its contract. One test over the rows of the constant. Assumes nothing.
use mathlib.Core.Path.{refl}
use Rattle.gates.specs.Cell.{cells, cell_at}
use Rattle.text_spec.specs.Characters.{same, cell_name}
use Rattle.text_lines.proofs.LineForms.{row_test, name_table}
use Rattle.text_lines.proofs.names.Goals as goal

pub returns : goal.returns
unfolding row_test cell_name cell_at cells same
returns c = name_table _ refl refl
