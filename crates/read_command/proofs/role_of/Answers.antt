-- `read_command::role_of` meets its contract, by file. Assumes nothing.
use Rattle.read_command.proofs.role_of.Goals as goal

pub returns-in-Stage : goal.returns-in-Stage
returns-in-Stage c = rw c.in-Stage.is c.stage_role.ensures

pub returns-in-Pipeline : goal.returns-in-Pipeline
returns-in-Pipeline c = rw c.in-Pipeline.is c.pipeline_role.ensures

pub returns-in-Reference : goal.returns-in-Reference
returns-in-Reference c = rw c.in-Reference.is c.reference_role.ensures
