-- `circuit_order::place` meets its contract. Assumes nothing.
use mathlib.Core.Path.{refl}
use Rattle.circuit_order.proofs.Placing.{place_left, placing_more}
use Rattle.circuit_order.proofs.place.Goals as goal

-- there is a place left
pub place_gate-requires : goal.place_gate-requires
place_gate-requires c =
    (c.requires.0.loaded, c.requires.1, place_left c.args.counts c.args.code.now c.args.waiting.now _ c.requires.0 _ c.requires.1 c.requires.2)

pub returns : goal.returns
returns c =
    let p = c.place_gate.ensures in
    (placing_more c.args.counts c.args.code.now c.args.waiting.now _ c.requires.0 _ c.requires.1 c.requires.2 _ p, p.reordered, refl)
