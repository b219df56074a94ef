-- `lane_settle::pin_lanes` meets its contract. Assumes nothing.
use Rattle.lane_settle.proofs.pin_lanes.Goals as goal

pub returns : goal.returns
returns c =
    rw (c.lanes_at.ensures, c.lanes_at-2.ensures, c.lanes_at-3.ensures, c.lanes_at-4.ensures, c.pins_of-pins.ensures.is)
