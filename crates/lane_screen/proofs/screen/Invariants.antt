-- `lane_screen::screen` meets its contract. The loop's invariant: what the masks do not name has no fault, where at first they
-- name all words; and the gates of the blocks before b are noted. Assumes nothing.
use Rattle.circuit.specs.Stage.{stage_in}
use Rattle.circuit.specs.Reference.{reference_in}
use Rattle.lane_rise.specs.Rising.{NotedTo}
use Rattle.lane_screen.specs.Marks.{Workspace}
use Rattle.lane_screen.specs.Suspects.{AllClean}
use Rattle.lane_screen.proofs.Naming.{masks_of}
use Rattle.lane_screen.proofs.screen.Given as goal

abbrev pub invariant-loop-b : goal.invariant-loop-b
invariant-loop-b l =
    Workspace l.counts l.row l.ack l.values × AllClean (stage_in l.counts l.code) (reference_in l.sizes l.reference) (masks_of l.wrong l.rise l.fall)
    × NotedTo l.counts l.code l.words l.rose l.b
