-- `lane_screen::wrong_words` meets its contract. The loop's invariant: in a word that is not gathered the outputs below j read as their signals.
-- Assumes nothing.
use Prim.Native.Nat.{ℕ}
use mathlib.Core.Path.{ap, subst, ◌∙◌}
use lib.ListN.{get_or}
use Rattle.runs.specs.Pair.{DataOf}
use Rattle.verdict.specs.Nets.{rail_of}
use Rattle.circuit.specs.Stage.{output_in}
use Rattle.circuit.specs.Reference.{signal_in}
use Rattle.lane_cells.specs.Lane.{lane, row_in}
use Rattle.lane_screen.proofs.Gathering.{gathered_more}
use Rattle.lane_screen.proofs.wrong_words.Goals as goal

pub loop-j-preserved : goal.loop-j-preserved
loop-j-preserved c =
    let l = c.loop-j in
    let Reads : ℕ → ℕ → ℕ → Type 0 = λ n i x. DataOf (row_in n c.args.row.now) (rail_of (output_in c.args.counts c.args.code.now i)) (lane n x) in
    let value = c.lanes_at-value.ensures ∙ ap (λ (s : ℕ). get_or c.args.values.now s 0) c.signal_of-signal.ensures.is in
    gathered_more (λ n i. Reads n i (get_or c.args.values.now (signal_in c.args.sizes c.args.reference.now i) 0)) l.words l.j _ l.invariant
    (λ n d e. subst (Reads n l.j) value (c.misread-words.ensures n d e))
