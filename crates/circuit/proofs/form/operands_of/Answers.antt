-- `circuit::form::operands_of` meets its contract. Assumes nothing.
use native.Mathlib.Omega.{arith}
use mathlib.Core.Path.{refl}
use Rattle.circuit.proofs.form.operands_of.Goals as goal

pub returns : goal.returns
returns c =
    record { is = refl; a_in = c.requires.0.operand c.args.k 0 c.requires.1 (omega arith); b_in = c.requires.0.operand c.args.k 1 c.requires.1 (omega arith) }
