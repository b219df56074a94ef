-- `lane_screen::wrong_words` meets its contract. The loop's invariant: in a word that is not gathered the outputs below j read as their signals.
-- Assumes nothing.
use Rattle.runs.specs.Pair.{DataOf}
use Rattle.verdict.specs.Nets.{rail_of}
use Rattle.circuit.specs.Stage.{output_in}
use Rattle.circuit.specs.Reference.{signal_in}
use Rattle.lane_cells.specs.Lane.{row_in}
use Rattle.lane_screen.proofs.Gathering.{GatheredTo}
use Rattle.lane_screen.proofs.wrong_words.Given as goal

abbrev pub invariant-loop-j : goal.invariant-loop-j
invariant-loop-j l =
    GatheredTo (λ n i. DataOf (row_in n l.row) (rail_of (output_in l.counts l.code i)) (row_in n l.values (signal_in l.sizes l.reference i))) l.words l.j
