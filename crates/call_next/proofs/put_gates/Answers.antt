-- `family::put_gates` meets its contract. Assumes nothing.
use native.Mathlib.Omega.{arith}
use Prim.Native.Nat.{◌+◌, ◌*◌}
use Rattle.call_next.proofs.Stores.{one_below, two_below, gates_none, gates_one, gates_two}
use Rattle.call_next.proofs.put_gates.Goals as goal

pub returns-then-gates-eq0 : goal.returns-then-gates-eq0
returns-then-gates-eq0 c = let a = c.args in gates_none (2 * a.inputs + a.gates) a.gates a.x c.if-gates-eq0.true

pub put_gate-requires : goal.put_gate-requires
put_gate-requires c =
    let i = c.requires.0 in
    let e = c.if-gates-eq1.true in (
      omega (arith, i.inputs_in),
      omega (arith, i.inputs_in),
      one_below (2 * c.args.inputs + c.args.gates) c.args.gates c.args.x e
          c.requires.1,
      omega (arith, c.requires.2),
    )

pub returns-then-gates-eq1 : goal.returns-then-gates-eq1
returns-then-gates-eq1 c =
    let a = c.args in
    gates_one (2 * a.inputs + a.gates) a.gates a.x c.if-gates-eq1.true c.put_gate.ensures

pub put_gate-requires-2 : goal.put_gate-requires-2
put_gate-requires-2 c =
    let i = c.requires.0 in
    let t =
    two_below (2 * c.args.inputs + c.args.gates) c.args.gates c.args.x (2 * c.square-k.result) (omega (arith, i.inputs_in))
    (omega (arith, i.gates_in_holds))
    (omega (arith, c.square-k.ensures.0)) c.requires.1 in
    (omega (arith, i.inputs_in), omega (arith, i.inputs_in, i.gates_in_holds), t.0, omega (arith, c.requires.2, i.gates_in_holds))

pub put_gate-requires-3 : goal.put_gate-requires-3
put_gate-requires-3 c =
    let i = c.requires.0 in
    let t =
    two_below (2 * c.args.inputs + c.args.gates) c.args.gates c.args.x (2 * c.square-k.result)
    (omega (arith, i.inputs_in))
    (omega (arith, i.gates_in_holds)) (omega (arith, c.square-k.ensures.0)) c.requires.1 in (
      omega (arith, i.inputs_in),
      omega (arith, i.inputs_in, i.gates_in_holds),
      t.1,
      omega
          (arith, c.requires.2, i.gates_in_holds, c.put_gate-2.ensures.long),
    )

pub returns : goal.returns
returns c =
    let a = c.args in
    gates_two (2 * a.inputs + a.gates) a.gates a.x _
    (omega (arith, c.requires.0.gates_in_holds))
    (omega (arith, c.square-k.ensures.0))
    c.put_gate-2.ensures
    c.put_gate-3.ensures
