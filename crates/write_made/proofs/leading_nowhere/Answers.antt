-- `write_made::leading_nowhere` meets its contract. Assumes nothing.
use native.Mathlib.Omega.{arith}
use mathlib.Core.Path.{◌∙◌}
use Rattle.write_made.proofs.Marking.{nowhere_in}
use Rattle.write_made.proofs.leading_nowhere.Goals as goal

pub returns : goal.returns
returns c =
    c.unmarked.ensures
    ∙ nowhere_in c.args.sizes c.args.reference.now c.requires.1 522 (omega (arith, c.requires.0.within.inputs_in, c.requires.0.within.gates_in_holds)) _ _
    c.mark_outputs.ensures c.mark_leading.ensures
