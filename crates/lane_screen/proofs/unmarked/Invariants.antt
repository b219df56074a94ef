-- `lane_screen::unmarked` meets its contract. The loop's invariant: in a word that is not gathered, the nets below p are marked where they are high.
-- Assumes nothing.
use mathlib.Core.Path.{◌≡◌}
use mathlib.Core.Bool.{true}
use Rattle.lane_cells.specs.Lane.{row_in}
use Rattle.lane_screen.proofs.Gathering.{GatheredTo}
use Rattle.lane_screen.proofs.unmarked.Given as goal

abbrev pub invariant-loop-p : goal.invariant-loop-p
invariant-loop-p l = GatheredTo (λ j q. row_in j l.row q ≡ true → row_in j l.ack q ≡ true) l.words l.p
