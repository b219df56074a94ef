-- `check_levels::gather` meets its contract. The loop's invariant: the gates at the places before i have their sets. Assumes nothing.
use native.Mathlib.Omega.{arith}
use mathlib.Core.Path.{◌∙◌}
use lib.ListN.{length-set}
use Rattle.check_levels.proofs.Gathering.{gathered_more, gathered_all, gate_at_holds}
use Rattle.check_levels.proofs.gather.Goals as goal

pub pin_sets-requires : goal.pin_sets-requires
pin_sets-requires c = (c.requires.rails_in_holds, omega (arith, c.requires.room, c.loop-i.invariant.0), omega (arith, c.requires.raw-room, gate_at_holds _ _ _ _ _ c.requires _ c.loop-i-test.true))

pub bounds-sets-inputs : goal.bounds-sets-inputs
bounds-sets-inputs c = omega (arith, c.requires.room, c.loop-i.invariant.0, gate_at_holds _ _ _ _ _ c.requires _ c.loop-i-test.true)

pub loop-i-preserved : goal.loop-i-preserved
loop-i-preserved c =
    let l = c.loop-i in (
      length-set l.sets _ _ ∙ l.invariant.0,
      λ p own t h r s. gathered_more _ _ _ _ _ c.requires p own t h r _ _ _ c.loop-i-test.true (omega (arith, c.requires.room, l.invariant.0)) c.pin_sets.ensures (l.invariant.1 p own t h r s),
    )

pub returns : goal.returns
returns c = let l = c.loop-i in record { long = l.invariant.0; gathered = λ p own t h r s. gathered_all _ _ _ _ _ c.requires p own t h r _ _ (omega (arith, c.loop-i-test.false)) (l.invariant.1 p own t h r s) }
