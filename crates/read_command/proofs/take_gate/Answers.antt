-- `read_command::take_gate` meets its contract: each answer is that of the tests that led to it. Assumes nothing.
use borrow.Author.Tests.{le-leb, lt-leb, eq-eqb, ne_eqb}
use Rattle.netlist.specs.Commands.{when_found, take_gate}
use Rattle.read_command.proofs.take_gate.Goals as goal

pub returns-then-most-g : goal.returns-then-most-g
unfolding take_gate
returns-then-most-g c = simp (le-leb _ _ c.if-most-g.true)

pub returns-then-k-eq0 : goal.returns-then-k-eq0
unfolding take_gate
returns-then-k-eq0 c = simp (lt-leb _ _ c.if-most-g.false, ← c.needed-k.ensures, eq-eqb _ _ c.if-k-eq0.true)

pub returns-in-Some : goal.returns-in-Some
unfolding take_gate when_found
returns-in-Some c =
    simp (
      lt-leb _ _ c.if-most-g.false,
      ← c.needed-k.ensures,
      ne_eqb _ _ c.if-k-eq0.false,
      ← c.first_misfit-found.ensures,
      c.in-Some.is,
    )

pub returns-in-None : goal.returns-in-None
unfolding take_gate when_found
returns-in-None c =
    simp (
      lt-leb _ _ c.if-most-g.false,
      ← c.needed-k.ensures,
      ne_eqb _ _ c.if-k-eq0.false,
      ← c.first_misfit-found.ensures,
      c.in-None.is,
    )
