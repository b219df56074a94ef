-- `lane_complete::set_words` meets its contract. Assumes nothing.
use mathlib.Core.Path.{◌∙◌}
use Rattle.lane_complete.proofs.Gates.{may_rise_holds}
use Rattle.lane_complete.proofs.set_words.Goals as goal

pub returns : goal.returns
returns c =
    may_rise_holds c.args.counts c.args.code.now c.requires.0 c.args.k c.requires.1 c.args.row.now _
    (c.set_lanes.ensures ∙ rw (c.cell_of-cell.ensures.is, c.pin_lanes-at.ensures))
