-- `gates::at_least` meets its contract. Assumes nothing.
use borrow.Author.Tests.{le-leb, lt-leb}
use Rattle.gates.specs.Cell.{at_least}
use Rattle.gates.proofs.at_least.Goals as goal

pub returns-then-m-pattern : goal.returns-then-m-pattern
unfolding at_least
returns-then-m-pattern c = simp (le-leb _ _ c.if-m-pattern.true)

pub returns-else-m-pattern : goal.returns-else-m-pattern
unfolding at_least
returns-else-m-pattern c = simp (lt-leb _ _ c.if-m-pattern.false)
