-- `circuit::form::signal_of` meets its contract. Assumes nothing.
use mathlib.Core.Path.{refl}
use Rattle.circuit.proofs.form.signal_of.Goals as goal

pub returns : goal.returns
returns c = record { is = refl; there = c.requires.0.signal c.args.j c.requires.1 }
