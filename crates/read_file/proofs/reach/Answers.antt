-- `read_file::reach` meets its contract. Assumes nothing.
use Rattle.read_file.specs.Files.{reach}
use Rattle.read_file.proofs.Tops.{reach_nets}
use Rattle.read_file.proofs.reach.Goals as goal

pub returns-in-Reference : goal.returns-in-Reference
unfolding reach
returns-in-Reference c = rw c.in-Reference.is

pub returns-in_default : goal.returns-in_default
returns-in_default c = reach_nets c.args.file c.in_default.not-Reference _ _
