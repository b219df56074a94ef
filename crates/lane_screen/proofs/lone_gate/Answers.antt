-- `lane_screen::lone_gate` meets its contract. Assumes nothing.
use Rattle.lane_screen.proofs.ByNet.{lone_at}
use Rattle.lane_screen.proofs.lone_gate.Goals as goal

pub returns : goal.returns
returns c =
    lone_at c.args.code.now c.args.row.now c.args.k _ c.cell_of-cell.ensures.is _ c.pin_lanes-at.ensures c.lone_lanes.result c.lone_lanes.ensures
