-- `family::number_in` meets its contract. Assumes nothing.
use Rattle.call_next.proofs.Shown.{shown}
use Prim.Native.Nat.{◌*◌, ◌≤◌}
use native.Mathlib.Omega.{arith}
use native.Mathlib.Nat.{mul-le-mul}
use Rattle.call_next.proofs.number_in.Goals as goal

pub overflow_mul-result : goal.overflow_mul-result
overflow_mul-result c =
    let k : c.gates_at.result * c.square.result ≤ 2000000 * 36 = mul-le-mul c.gates_at.ensures.1 c.square.ensures.1 in
    omega arith

pub overflow_mul-result-2 : goal.overflow_mul-result-2
overflow_mul-result-2 c =
    let h : c.wide-r0.result * c.args.m ≤ 255 * 6 =
    mul-le-mul c.wide-r0.ensures.1 c.requires.0 in
    omega (arith, c.wide-r1.ensures.1)

pub overflow_add-result : goal.overflow_add-result
overflow_add-result c =
    let h : c.wide-r0.result * c.args.m ≤ 255 * 6 =
    mul-le-mul c.wide-r0.ensures.1 c.requires.0 in
    omega (arith, c.wide-r1.ensures.1)

pub overflow_add-result-2 : goal.overflow_add-result-2
overflow_add-result-2 c =
    let h : c.wide-r0.result * c.args.m ≤ 255 * 6 =
    mul-le-mul c.wide-r0.ensures.1 c.requires.0 in
    let k : c.gates_at.result * c.square.result ≤ 2000000 * 36 = mul-le-mul c.gates_at.ensures.1 c.square.ensures.1 in
    omega (arith, c.wide-r1.ensures.1)

pub returns : goal.returns
returns c =
    let a = c.args in
    shown a.s.now a.m a.gates _ _ _ _ c.gates_at.ensures.0 c.wide-r0.ensures.0
    c.wide-r1.ensures.0
    c.square.ensures.0
