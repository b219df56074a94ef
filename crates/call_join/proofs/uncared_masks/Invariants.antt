-- `call_join::uncared_masks` meets its contract. The loop's invariant: the masks of the blocks before block b are made. Assumes nothing.
use Prim.Native.Nat.{◌≤◌}
use mathlib.Core.Path.{◌≡◌}
use lib.ListN.{length}
use Rattle.circuit.specs.Stage.{stage_in}
use Rattle.circuit.specs.Reference.{reference_in}
use Rattle.call_join.proofs.Masks.{BlocksTo}
use Rattle.call_join.proofs.uncared_masks.Given as goal

abbrev pub invariant-loop-b : goal.invariant-loop-b
invariant-loop-b l =
    (length l.values ≡ 522) × (length l.masks ≡ 16) × (l.b ≤ l.b-end) × BlocksTo (reference_in l.sizes1 l.reference1) (stage_in l.counts2 l.code2) l.masks l.b
