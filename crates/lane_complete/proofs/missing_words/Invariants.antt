-- `lane_complete::missing_words` meets its contract. The loop's invariant: in a word that is not named, with one of the first i inputs NULL not all
-- outputs are DATA. Assumes nothing.
use mathlib.Core.Path.{◌≡◌}
use lib.ListN.{length, get_or}
use Rattle.runs.specs.Pair.{AllData}
use Rattle.circuit.specs.Stage.{net_count}
use Rattle.circuit.specs.Rows.{row_size}
use Rattle.lane_settle.specs.Block.{net_in}
use Rattle.lane_screen.proofs.Gathering.{GatheredTo}
use Rattle.lane_complete.specs.Rows.{missing_in}
use Rattle.lane_complete.proofs.missing_words.Given as goal

abbrev pub invariant-loop-i : goal.invariant-loop-i
invariant-loop-i l =
    (length l.row ≡ row_size) × (get_or l.row (net_count l.counts) 0 ≡ 0)
    × GatheredTo (λ j k. ¬ (AllData (net_in l.counts l.code) (missing_in l.counts l.code l.b k j))) l.words l.i
