-- `circuit_wire::copy` meets its contract. Assumes nothing.
use Rattle.circuit_wire.proofs.Numbers.{copied}
use Rattle.circuit_wire.proofs.copy.Goals as goal

pub returns : goal.returns
returns c = copied _ _ _ _ c.requires.0 c.requires.1 c.copy_from_slice.ensures.after
