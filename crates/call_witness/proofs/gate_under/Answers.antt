-- `call_witness::gate_under` meets its contract. Assumes nothing.
use Prim.Native.Nat.{◌+◌, ◌*◌}
use native.Mathlib.Omega.{arith}
use mathlib.Core.Path.{sym, ap}
use mathlib.Core.Bool.{Bool, cond}
use borrow.Author.Tests.{eq-eqb, ne_eqb}
use Rattle.circuit.specs.Stage.{net_count}
use Rattle.call_witness.proofs.gate_under.Goals as goal

pub overflow_add-result : goal.overflow_add-result
overflow_add-result c = omega (arith, c.requires.1 c.if-verdict-number.true, c.requires.0.gates_in_holds, c.requires.0.inputs_in)

pub returns-then-verdict-number : goal.returns-then-verdict-number
returns-then-verdict-number c =
    sym (ap (λ (b : Bool). cond b (2 * c.args.counts.inputs + c.args.verdict.at) (net_count c.args.counts))
    (eq-eqb c.args.verdict.number c.args.number c.if-verdict-number.true))

pub returns : goal.returns
returns c =
    sym (ap (λ (b : Bool). cond b (2 * c.args.counts.inputs + c.args.verdict.at) (net_count c.args.counts))
    (ne_eqb c.args.verdict.number c.args.number c.if-verdict-number.false))
