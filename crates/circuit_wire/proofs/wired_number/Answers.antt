-- `circuit_wire::wired_number` meets its contract. Assumes nothing.
use native.Mathlib.Omega.{arith}
use mathlib.Core.Path.{◌∙◌}
use Rattle.circuit_wire.proofs.Numbers.{number_net, number_other}
use Rattle.circuit_wire.proofs.wired_number.Goals as goal

pub overflow_mul-counts : goal.overflow_mul-counts
overflow_mul-counts c = omega (arith, c.requires.gates_in_holds)

pub overflow_mul-counts-then-names_net : goal.overflow_mul-counts-then-names_net
overflow_mul-counts-then-names_net c = omega (arith, c.requires.inputs_in)

pub overflow_add-counts : goal.overflow_add-counts
overflow_add-counts c = omega (arith, c.requires.inputs_in, c.requires.gates_in_holds)

pub overflow_cast-counts : goal.overflow_cast-counts
overflow_cast-counts c = omega (arith, c.requires.inputs_in, c.requires.gates_in_holds)

pub returns-then-names_net : goal.returns-then-names_net
returns-then-names_net c =
    let z = c.args in
    c.wired_net.ensures ∙ number_net z.nets.now z.counts z.i z.v _ c.names_net.ensures c.if-names_net.true

pub returns : goal.returns
returns c = let z = c.args in number_other z.nets.now z.counts z.i z.v _ c.names_net.ensures c.if-names_net.false
