-- `lane_complete::remaining_words` meets its contract. The loop's invariant: in a word that is not named, with one of the first i inputs kept not all
-- outputs are NULL. Assumes nothing.
use mathlib.Core.Path.{◌≡◌}
use lib.ListN.{length}
use Rattle.runs.specs.Pair.{AllNull}
use Rattle.circuit.specs.Rows.{row_size}
use Rattle.lane_settle.specs.Block.{net_in, AtRest}
use Rattle.lane_screen.proofs.Gathering.{GatheredTo}
use Rattle.lane_complete.specs.Rows.{remaining_in, RailsLow}
use Rattle.lane_complete.proofs.remaining_words.Given as goal

abbrev pub invariant-loop-i : goal.invariant-loop-i
invariant-loop-i l =
    (length l.rest ≡ row_size) × AtRest l.counts l.code l.b l.rest × (length l.row ≡ row_size) × RailsLow l.counts l.row
    × GatheredTo (λ j k. ¬ (AllNull (net_in l.counts l.code) (remaining_in l.counts l.code l.b k j))) l.words l.i
