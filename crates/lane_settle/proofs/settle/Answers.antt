-- `lane_settle::settle` meets its contract. Assumes nothing.
use mathlib.Core.Path.{◌∙◌}
use Rattle.lane_settle.proofs.Resting.{settled_rest}
use Rattle.lane_settle.proofs.settle.Goals as goal

pub returns : goal.returns
returns c =
    let spell = c.spell_rails in
    let gates = c.settle_gates in
    let spelled = spell.ensures.spelled c.args.code.now c.requires.1 in record {
      long = (gates.ensures.long.0 ∙ spell.ensures.long, gates.ensures.long.1);
      rest = settled_rest c.args.counts c.args.code.now c.requires.1 _ _ (gates.ensures.settled c.args.b spelled);
      marked = gates.ensures.marked c.args.b spelled;
    }
