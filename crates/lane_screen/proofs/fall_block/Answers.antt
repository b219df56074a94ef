-- `lane_screen::fall_block` meets its contract. Assumes nothing.
use mathlib.Core.Path.{refl}
use mathlib.Core.Bool.{true}
use Rattle.lane_screen.proofs.Blocks.{all_named}
use Rattle.lane_screen.proofs.fall_block.Goals as goal

pub returns-then-hold : goal.returns-then-hold
returns-then-hold c =
    record { long = refl; words = λ b rest. all_named true c.args.counts c.args.code.now b }
