-- `call_witness::list_least` meets its contract. The loop's invariant: what has switched is listed, and none below a place may switch. Assumes nothing.
use mathlib.Core.Path.{◌≡◌}
use lib.ListN.{length}
use Rattle.circuit_steps.specs.Moves.{loaded_net, row_in}
use Rattle.call_witness.specs.Lists.{moving}
use Rattle.call_witness.proofs.Steps.{Walking}
use Rattle.call_witness.proofs.list_least.Given as goal

abbrev pub invariant-loop-count : goal.invariant-loop-count
invariant-loop-count l =
    Walking l.counts l.code (moving (loaded_net l.counts l.code) (row_in l.counts l.goal) l.held) (record { list = l.initial.list; start = l.start; row = row_in l.counts l.initial.row }) l.list l.row l.count l.from × (length l.row ≡ length l.initial.row)
