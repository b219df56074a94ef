-- `lane_settle::mark` meets its contract. Assumes nothing.
use lib.ListN.{length-set}
use Rattle.lane_settle.proofs.Marks.{mark_more}
use Rattle.lane_settle.proofs.mark.Goals as goal

pub returns : goal.returns
returns c = (simp length-set, mark_more c.args.ack.now c.args.net c.args.words c.requires)
