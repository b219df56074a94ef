-- `circuit::form::cell_of` meets its contract. Assumes nothing.
use mathlib.Core.Path.{refl}
use Rattle.circuit.proofs.form.cell_of.Goals as goal

pub returns : goal.returns
returns c =
    let g = c.requires.0.gate c.args.k c.requires.1 in
    record { is = refl; low = g.low; high = g.high }
