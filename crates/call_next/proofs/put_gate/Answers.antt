-- `family::put_gate` meets its contract. Assumes nothing.
use native.Mathlib.Omega.{arith}
use Rattle.call_next.proofs.Stores.{gate_small, gate_put}
use Rattle.call_next.proofs.put_gate.Goals as goal

pub overflow_add-x : goal.overflow_add-x
overflow_add-x c =
    let h = gate_small c.args.m c.args.x _ c.requires.0 c.requires.1 c.requires.2 c.square-k.ensures.0 in
    omega (arith, h.0)

pub overflow_cast-x : goal.overflow_cast-x
overflow_cast-x c =
    let h = gate_small c.args.m c.args.x _ c.requires.0 c.requires.1 c.requires.2 c.square-k.ensures.0 in
    omega (arith, h.0)

pub overflow_cast-y : goal.overflow_cast-y
overflow_cast-y c =
    let h = gate_small c.args.m c.args.x _ c.requires.0 c.requires.1 c.requires.2 c.square-k.ensures.0 in
    omega (arith, h.1)

pub overflow_cast-y-2 : goal.overflow_cast-y-2
overflow_cast-y-2 c =
    let h = gate_small c.args.m c.args.x _ c.requires.0 c.requires.1 c.requires.2 c.square-k.ensures.0 in
    omega (arith, h.2)

pub returns : goal.returns
returns c =
    let a = c.args in
    gate_put a.m a.x _ c.square-k.ensures.0 c.put_stage_gate.ensures
