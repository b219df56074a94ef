-- `circuit_steps::switch_net` meets its contract: a level is 0 or 1. Assumes nothing.
use native.Mathlib.Omega.{arith}
use Rattle.circuit_steps.proofs.Toggle.{switched_row, switched}
use Rattle.circuit_steps.proofs.switch_net.Goals as goal

pub overflow_sub-row : goal.overflow_sub-row
overflow_sub-row c = omega (arith, c.requires.0.bit c.args.net (omega arith))

pub returns : goal.returns
returns c = record { row = switched_row c.args.counts c.args.row.now c.requires.0 c.args.net c.requires.1; toggled = switched c.args.counts c.args.row.now c.requires.0 c.args.net c.requires.1 }
