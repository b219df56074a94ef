-- `read_command::pipeline_role` meets its contract, by its arms. Assumes nothing.
use borrow.Author.Tests.{lt-ltb, le-ltb}
use Rattle.netlist.specs.Commands.{role_of}
use Rattle.read_command.proofs.Forms.{pipeline_number}
use Rattle.read_command.proofs.pipeline_role.Goals as goal

pub returns-in-Gate : goal.returns-in-Gate
unfolding role_of
returns-in-Gate c = rw c.in-Gate.is

pub returns-in-Output : goal.returns-in-Output
unfolding role_of
returns-in-Output c = rw c.in-Output.is

pub returns-then-i-lt2 : goal.returns-then-i-lt2
unfolding role_of
returns-then-i-lt2 c = rw c.in-Register.is (simp (lt-ltb _ _ c.if-i-lt2.true))

pub returns-else-i-lt2 : goal.returns-else-i-lt2
unfolding role_of
returns-else-i-lt2 c = rw c.in-Register.is (simp (le-ltb _ _ c.if-i-lt2.false))

pub returns-in-Element : goal.returns-in-Element
unfolding role_of
returns-in-Element c = rw c.in-Element.is

pub returns-in_default : goal.returns-in_default
returns-in_default c = pipeline_number _ _ c.in_default.not-Gate c.in_default.not-Output c.in_default.not-Register c.in_default.not-Element
