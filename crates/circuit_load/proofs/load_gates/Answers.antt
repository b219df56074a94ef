-- `circuit_load::load_gates` meets its contract. The loop's invariant: the gates before k are written. Assumes nothing.
use native.Mathlib.Omega.{arith}
use mathlib.Core.Path.{◌∙◌}
use Rattle.circuit_load.proofs.Numbers.{write_gate}
use Rattle.circuit_load.proofs.load_gates.Goals as goal

pub loop-k-preserved : goal.loop-k-preserved
loop-k-preserved c =
    let l = c.loop-k in
    let put = c.load_gate.ensures in
    (put.long ∙ l.invariant.0, write_gate c.args.s.now c.args.places.now c.args.ground l.k (omega (arith, l.invariant.0, c.requires.2)) l.invariant.1 put)
