-- `read_command::take_element` meets its contract: each answer is that of the tests that led to it. Assumes nothing.
use borrow.Author.Tests.{le-leb, lt-leb}
use Rattle.netlist.specs.Commands.{when_found, take_element}
use Rattle.read_command.proofs.take_element.Goals as goal

pub returns-then-m-ge-PARTS : goal.returns-then-m-ge-PARTS
unfolding take_element
returns-then-m-ge-PARTS c = simp (le-leb _ _ c.if-m-ge-PARTS.true)

pub returns-in-Some : goal.returns-in-Some
unfolding take_element when_found
returns-in-Some c =
    simp (
      lt-leb _ _ c.if-m-ge-PARTS.false,
      ← c.pins_used.ensures,
      ← c.first_misfit-found.ensures,
      c.in-Some.is,
    )

pub returns-in-None : goal.returns-in-None
unfolding take_element when_found
returns-in-None c =
    simp (
      lt-leb _ _ c.if-m-ge-PARTS.false,
      ← c.pins_used.ensures,
      ← c.first_misfit-found.ensures,
      c.in-None.is,
    )
