-- `write_joined::reference_length` meets its contract. Assumes nothing.
use mathlib.Core.Path.{sym}
use Rattle.write_joined.proofs.Whole.{reference_long_in}
use Rattle.write_joined.proofs.reference_length.Goals as goal

pub returns : goal.returns
returns c reference1 reference2 = sym (reference_long_in c.args.sizes1 reference1 c.args.sizes2 reference2)
