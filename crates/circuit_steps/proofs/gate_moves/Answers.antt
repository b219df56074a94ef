-- `circuit_steps::gate_moves` meets its contract. Assumes nothing.
use Rattle.circuit_steps.proofs.Moves.{low_moves, high_moves}
use Rattle.circuit_steps.proofs.gate_moves.Goals as goal

pub returns-then-row-net-eq0 : goal.returns-then-row-net-eq0
returns-then-row-net-eq0 c =
    low_moves c.args.counts c.args.code.now c.args.row.now c.requires.1 c.requires.3 c.args.k c.requires.2 c.if-row-net-eq0.true _ c.gate_level.ensures

pub returns : goal.returns
returns c =
    high_moves c.args.counts c.args.code.now c.args.row.now c.requires.1 c.requires.3 c.args.k c.requires.2 c.if-row-net-eq0.false _
    c.level_falling.ensures.0
