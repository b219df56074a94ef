-- `check_levels::is_source` meets its contract. Assumes nothing.
use mathlib.Core.Path.{refl}
use Rattle.lane_cells.specs.Lane.{level_in}
use Rattle.check_levels.proofs.is_source.Goals as goal

pub returns : goal.returns
unfolding level_in
returns c = refl
