-- `circuit::form::place_gate` meets its contract. Assumes nothing.
use native.Mathlib.Omega.{arith}
use lib.ListN.{length-set}
use Rattle.circuit.proofs.Reordering.{gate_placed}
use Rattle.circuit.proofs.form.place_gate.Goals as goal

pub bounds-code-k : goal.bounds-code-k
bounds-code-k c = simp length-set (omega (arith, c.requires.1, c.requires.0.room))

pub returns : goal.returns
returns c = gate_placed c.args.counts c.args.code.now c.args.k c.args.i c.requires.1 c.requires.2 (omega (arith, c.requires.0.room))
