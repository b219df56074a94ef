-- `lane_screen::mark_outputs` meets its contract. The loop's invariant: what is marked beyond the start are rails of outputs. Assumes nothing.
use Rattle.lane_settle.specs.Block.{net_in}
use Rattle.lane_screen.proofs.Outputs.{OutputsTo}
use Rattle.lane_screen.proofs.mark_outputs.Given as goal

abbrev pub invariant-loop-j : goal.invariant-loop-j
invariant-loop-j l = OutputsTo (net_in l.fn.counts l.code) l.initial.ack l.ack
