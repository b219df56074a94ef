-- `circuit::form::rails_of` meets its contract. Assumes nothing.
use mathlib.Core.Path.{refl}
use Rattle.circuit.proofs.form.rails_of.Goals as goal

pub returns : goal.returns
returns c =
    record { is = refl; rail0_in = c.requires.0.rail0_net c.args.j c.requires.1; rail1_in = c.requires.0.rail1_net c.args.j c.requires.1 }
