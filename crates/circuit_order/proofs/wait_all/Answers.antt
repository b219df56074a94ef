-- `circuit_order::wait_all` meets its contract. Assumes nothing.
use native.Mathlib.Omega.{arith}
use Rattle.std.proofs.Common.{rules}
use Rattle.circuit_order.proofs.Placing.{wait_filled}
use Rattle.circuit_order.proofs.wait_all.Goals as goal

pub returns : goal.returns
returns c = wait_filled _ _ _ _ c.requires (omega arith) (search rules)
