-- `circuit_steps::may_switch` meets its contract. Assumes nothing.
use native.Mathlib.Omega.{arith}
use mathlib.Core.Path.{◌∙◌}
use Rattle.circuit_steps.proofs.Moves.{rail_moves, gate_moves_holds}
use Rattle.circuit_steps.proofs.may_switch.Goals as goal

pub returns-then-net-first : goal.returns-then-net-first
returns-then-net-first c =
    rail_moves c.args.counts c.args.code.now c.args.goal.now c.args.row.now c.requires.2 c.requires.3 c.args.net c.requires.4 (omega arith)

pub returns : goal.returns
returns c =
    c.gate_moves.ensures
    ∙ gate_moves_holds c.args.counts c.args.code.now c.args.goal.now c.args.row.now c.requires.2 c.requires.3 c.args.net c.requires.4 (omega arith)
