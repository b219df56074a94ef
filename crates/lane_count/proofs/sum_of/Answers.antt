-- `lane_count::sum_of` meets its contract. Assumes nothing.
use Rattle.lane_count.proofs.Adding.{level_three}
use Rattle.lane_count.proofs.sum_of.Goals as goal

pub returns : goal.returns
returns c = λ j. level_three j c.args.a c.args.b c.args.c
