-- `lane_complete::stay_words` meets its contract. Assumes nothing.
use mathlib.Core.Path.{sym, ◌∙◌}
use Rattle.lane_complete.proofs.Gates.{relaxed_stays, hold_stays}
use Rattle.lane_complete.proofs.stay_words.Goals as goal

pub returns-then-has_hold : goal.returns-then-has_hold
returns-then-has_hold c =
    hold_stays c.args.counts c.args.code.now c.requires.0 c.args.k c.requires.1 c.args.row.now (sym c.has_hold.ensures ∙ c.if-has_hold.true) _
    c.pin_lanes-at.ensures

pub returns : goal.returns
returns c =
    relaxed_stays c.args.counts c.args.code.now c.requires.0 c.args.k c.requires.1 c.args.row.now (sym c.has_hold.ensures ∙ c.if-has_hold.false) _
    c.set_words.ensures
