-- `read_command::next_command` meets its contract: past the last byte it is 1, and else what the file's own commands say. Assumes nothing.
use native.Mathlib.Omega.{arith}
use mathlib.Core.Path.{sym}
use Rattle.read_command.proofs.Position.{next_past}
use Rattle.read_command.proofs.next_command.Goals as goal

pub returns-then-s-at : goal.returns-then-s-at
returns-then-s-at c = sym (next_past _ _ _ _ _ c.if-s-at.true)

pub returns-then-at-eq0 : goal.returns-then-at-eq0
returns-then-at-eq0 c = rw c.if-at-eq0.true c.take_first.ensures

pub take_stage-requires : goal.take_stage-requires
take_stage-requires c = (c.if-s-at.false, omega (arith, c.if-at-eq0.false), c.in_default.not-Reference)

pub returns-in-Reference : goal.returns-in-Reference
returns-in-Reference c = rw c.in-Reference.is c.take_reference.ensures
