-- `family::loop_free` meets its contract. Assumes nothing.
use Rattle.call_next.proofs.Pins.{stage_free}
use Rattle.call_next.proofs.loop_free.Goals as goal

pub returns : goal.returns
returns c = let a = c.args in stage_free a.inputs a.gates a.number _ _ c.square.ensures.0 c.no_loop.ensures
