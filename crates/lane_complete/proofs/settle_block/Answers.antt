-- `lane_complete::settle_block` meets its contract: the rows at rest settle for their own rails. Assumes nothing.
use mathlib.Core.Path.{◌∙◌}
use Rattle.lane_settle.specs.Block.{rest_in}
use Rattle.lane_complete.proofs.Inputs.{rest_rows}
use Rattle.lane_complete.proofs.settle_block.Goals as goal

pub returns : goal.returns
returns c =
    let spell = c.spell_rails.ensures in
    let gates = c.settle_gates.ensures in
    let counts = c.args.counts in
    let code = c.args.code.now in
    let b = c.args.b in
    record { long = gates.long ∙ spell.long; rest = gates.settled (rest_in counts code b) (rest_rows counts code b) (spell.spelled code c.requires.1) }
