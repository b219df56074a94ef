-- `circuit::form::operation_of` meets its contract. Assumes nothing.
use mathlib.Core.Path.{refl}
use Rattle.circuit.proofs.form.operation_of.Goals as goal

pub returns : goal.returns
returns c = record { is = refl; low = c.requires.0.low c.args.k c.requires.1; high = c.requires.0.high c.args.k c.requires.1 }
