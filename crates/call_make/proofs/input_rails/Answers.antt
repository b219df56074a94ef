-- `call_make::input_rails` meets its contract. The loop's invariant: the rails before rail i are stored. Assumes nothing.
use native.Mathlib.Omega.{arith}
use Rattle.call_make.proofs.Building.{inputs_are}
use Rattle.call_make.proofs.input_rails.Goals as goal

pub returns : goal.returns
returns c = (inputs_are _ _ (λ i l. c.loop-i.invariant.1 i (omega arith)), c.loop-i.invariant.0)
