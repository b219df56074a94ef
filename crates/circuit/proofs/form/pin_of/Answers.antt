-- `circuit::form::pin_of` meets its contract. Assumes nothing.
use mathlib.Core.Path.{refl}
use Rattle.circuit.proofs.form.pin_of.Goals as goal

pub returns : goal.returns
returns c = record { is = refl; there = (c.requires.0.gate c.args.k c.requires.1).pin c.args.i c.requires.2 }
