-- `lane_settle::gate_lanes` meets its contract. Assumes nothing.
use mathlib.Core.Path.{◌∙◌}
use Rattle.lane_settle.proofs.gate_lanes.Goals as goal

pub returns : goal.returns
returns c = c.cell_lanes.ensures.lanes ∙ rw (c.cell_of-cell.ensures.is, c.pin_lanes-at.ensures)
