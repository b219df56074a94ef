-- `lane_screen::unmarked` meets its contract. The loop's invariant: in a word that is not gathered, the nets below p are marked where they are high.
-- Assumes nothing.
use mathlib.Core.Path.{◌≡◌}
use mathlib.Core.Bool.{true}
use Rattle.lane_cells.specs.Lane.{row_in}
use Rattle.lane_screen.proofs.Gathering.{gathered_more, not_unmarked}
use Rattle.lane_screen.proofs.unmarked.Goals as goal

pub loop-p-preserved : goal.loop-p-preserved
loop-p-preserved c =
    let l = c.loop-p in
    gathered_more (λ j q. row_in j c.args.row.now q ≡ true → row_in j c.args.ack.now q ≡ true) l.words l.p _ l.invariant (λ j d. not_unmarked j _ _)
