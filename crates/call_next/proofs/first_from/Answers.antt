-- `family::first_from` meets its contract. Assumes nothing.
use mathlib.Core.Path.{subst}
use Rattle.call_next.specs.Steps.{FoundFree}
use Rattle.call_next.proofs.Searching.{first_number, first_later}
use Rattle.call_next.proofs.first_from.Goals as goal

pub returns-in-Some : goal.returns-in-Some
returns-in-Some c =
    first_number c.args.inputs c.args.gates c.args.number _
    (subst (FoundFree c.args.inputs c.args.gates c.args.number) c.in-Some.is c.next_number-found.ensures)

pub returns-in-None : goal.returns-in-None
returns-in-None c =
    first_later c.args.inputs c.args.gates c.args.number _
    (subst (FoundFree c.args.inputs c.args.gates c.args.number) c.in-None.is c.next_number-found.ensures)
    c.next_shape.ensures
