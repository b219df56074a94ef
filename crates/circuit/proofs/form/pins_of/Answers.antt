-- `circuit::form::pins_of` meets its contract. Assumes nothing.
use native.Mathlib.Omega.{arith}
use mathlib.Core.Path.{refl}
use Rattle.circuit.proofs.form.pins_of.Goals as goal

pub returns : goal.returns
returns c =
    let pin = (c.requires.0.gate c.args.k c.requires.1).pin in
    record { is = refl; a_in = pin 0 (omega arith); b_in = pin 1 (omega arith); c_in = pin 2 (omega arith); d_in = pin 3 (omega arith) }
