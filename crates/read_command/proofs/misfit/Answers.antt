-- `read_command::misfit` meets its contract. Assumes nothing.
use borrow.Author.Tests.{lt-ltb, le-ltb}
use Rattle.netlist.specs.Commands.{misfit}
use Rattle.read_command.proofs.misfit.Goals as goal

pub returns-then-i-k : goal.returns-then-i-k
unfolding misfit
returns-then-i-k c = simp (lt-ltb _ _ c.if-i-k.true)

pub returns-else-i-k : goal.returns-else-i-k
unfolding misfit
returns-else-i-k c = simp (le-ltb _ _ c.if-i-k.false)
