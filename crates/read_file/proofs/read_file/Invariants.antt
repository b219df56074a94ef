-- `read_file::read_file` meets its contract. The loops' invariant, `Walking` and `Passing`: the reading goes on from the position with what stands
-- in the lent slice, and the search for 9 too as far as the top tells. Assumes nothing.
use Prim.Native.Nat.{◌-◌, ◌^◌, ◌≤◌}
use lib.ListN.{length}
use Rattle.read_file.proofs.WholeFile.{Walking}
use Rattle.read_file.proofs.Passing.{Passing}
use Rattle.read_file.proofs.read_file.Given as goal

abbrev pub invariant-loop-at : goal.invariant-loop-at
invariant-loop-at l = Walking l.file l.most l.s (length l.initial.places) l.places l.at l.counts × Passing l.file l.s l.at l.counts l.top

abbrev pub decreases-loop-at : goal.decreases-loop-at
decreases-loop-at l = length l.s - l.at

abbrev pub invariant-loop-below : goal.invariant-loop-below
invariant-loop-below l =
    Walking l.file l.most l.s (length l.initial.places) l.places l.at l.counts × Passing l.file l.s l.at l.counts l.top × (l.initial.at ≤ l.at) × (1 ≤ l.at) × (l.below ≤ 2 ^ l.counts.inputs)

abbrev pub decreases-loop-below : goal.decreases-loop-below
decreases-loop-below l = length l.s - l.at
