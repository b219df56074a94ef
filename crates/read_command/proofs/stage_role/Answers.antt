-- `read_command::stage_role` meets its contract, by its arms. Assumes nothing.
use Rattle.netlist.specs.Commands.{role_of}
use Rattle.read_command.proofs.Forms.{stage_number_holds}
use Rattle.read_command.proofs.stage_role.Goals as goal

pub returns-in-Gate : goal.returns-in-Gate
unfolding role_of
returns-in-Gate c = rw c.in-Gate.is

pub returns-in-Output : goal.returns-in-Output
unfolding role_of
returns-in-Output c = rw c.in-Output.is

pub returns-in_default : goal.returns-in_default
returns-in_default c = stage_number_holds _ _ c.in_default.not-Gate c.in_default.not-Output
