-- `circuit_load::ground_of` meets its contract. Assumes nothing.
use borrow.Author.Tests.{eq-eqb, ne_eqb}
use Rattle.circuit_load.specs.Load.{ground_of}
use Rattle.circuit_load.proofs.ground_of.Goals as goal

pub returns-then-counts-eq0 : goal.returns-then-counts-eq0
unfolding ground_of
returns-then-counts-eq0 c = rw (eq-eqb _ _ c.if-counts-eq0.true)

pub returns : goal.returns
unfolding ground_of
returns c = rw (ne_eqb _ _ c.if-counts-eq0.false)
