-- `call_keys::list_by_keys` meets its contract. The loop's invariant: what has switched is listed. Assumes nothing.
use mathlib.Core.Path.{◌≡◌}
use lib.ListN.{length}
use Rattle.circuit_steps.specs.Moves.{moves, loaded_net, row_in}
use Rattle.run_spec.specs.Keys.{key_in}
use Rattle.call_keys.proofs.Steps.{Walking}
use Rattle.call_keys.proofs.list_by_keys.Given as goal

abbrev pub invariant-loop-count : goal.invariant-loop-count
invariant-loop-count l =
    Walking l.counts l.code (moves (loaded_net l.counts l.code) (row_in l.counts l.goal)) (key_in l.keys) (record { list = l.initial.list; start = l.start; row = row_in l.counts l.initial.row }) l.list l.row l.count × (length l.row ≡ length l.initial.row)
