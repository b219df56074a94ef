-- `circuit_order::order_gates` meets its contract: where all gates are placed no gate reaches itself. Assumes nothing.
use Rattle.circuit_order.proofs.Placing.{fresh}
use Rattle.circuit_order.proofs.Searching.{found_none, found_some}
use Rattle.circuit_order.proofs.order_gates.Goals as goal

pub place_all-placed-requires : goal.place_all-placed-requires
place_all-placed-requires c = (c.requires, fresh _ c.requires.within)

pub returns-then-placed-counts : goal.returns-then-placed-counts
returns-then-placed-counts c = let p = c.place_all-placed.ensures in found_none _ _ _ p.1 _ p.0 c.if-placed-counts.true

pub returns : goal.returns
returns c =
    let p = c.place_all-placed.ensures in
    found_some _ _ _ p.1 _ p.0 c.if-placed-counts.false _ c.least_loop.ensures
