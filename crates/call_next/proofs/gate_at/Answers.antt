-- `family::gate_at` meets its contract. Assumes nothing.
use Rattle.call_next.proofs.Shown.{gate_zero, gate_some}
use Prim.Native.Nat.{◌*◌, ◌-◌, ◌≤◌}
use native.Mathlib.Omega.{arith}
use native.Mathlib.Nat.{mul-le-mul}
use Rattle.call_next.proofs.gate_at.Goals as goal

pub overflow_mul-result : goal.overflow_mul-result
overflow_mul-result c =
    let h : c.wide-a.result * c.args.m ≤ 255 * 6 =
    mul-le-mul c.wide-a.ensures.1 c.requires.0 in
    omega (arith, c.wide-b.ensures.1)

pub overflow_add-result : goal.overflow_add-result
overflow_add-result c =
    let h : c.wide-a.result * c.args.m ≤ 255 * 6 =
    mul-le-mul c.wide-a.ensures.1 c.requires.0 in
    omega (arith, c.wide-b.ensures.1)

pub returns-then-kind-eq0 : goal.returns-then-kind-eq0
returns-then-kind-eq0 c =
    let h : c.wide-a.result * c.args.m ≤ 255 * 6 =
    mul-le-mul c.wide-a.ensures.1 c.requires.0 in
    let a = c.args in (
      gate_zero a.s.now a.m a.at _ _ _ c.wide-kind.ensures.0 c.wide-a.ensures.0
          c.wide-b.ensures.0
          c.if-kind-eq0.true,
      omega (arith, c.wide-b.ensures.1),
    )

pub overflow_mul-result-2 : goal.overflow_mul-result-2
overflow_mul-result-2 c =
    let k : (c.wide-kind.result - 1) * c.square.result ≤ 255 * 36 =
    mul-le-mul {n₂ = 255} (omega (arith, c.wide-kind.ensures.1)) c.square.ensures.1 in
    omega arith

pub overflow_mul-result-3 : goal.overflow_mul-result-3
overflow_mul-result-3 c =
    let h : c.wide-a.result * c.args.m ≤ 255 * 6 =
    mul-le-mul c.wide-a.ensures.1 c.requires.0 in
    omega (arith, c.wide-b.ensures.1)

pub overflow_add-result-2 : goal.overflow_add-result-2
overflow_add-result-2 c =
    let h : c.wide-a.result * c.args.m ≤ 255 * 6 =
    mul-le-mul c.wide-a.ensures.1 c.requires.0 in
    omega (arith, c.wide-b.ensures.1)

pub overflow_add-result-3 : goal.overflow_add-result-3
overflow_add-result-3 c =
    let h : c.wide-a.result * c.args.m ≤ 255 * 6 =
    mul-le-mul c.wide-a.ensures.1 c.requires.0 in
    let k : (c.wide-kind.result - 1) * c.square.result ≤ 255 * 36 =
    mul-le-mul {n₂ = 255} (omega (arith, c.wide-kind.ensures.1)) c.square.ensures.1 in
    omega (arith, c.wide-b.ensures.1)

pub returns : goal.returns
returns c =
    let h : c.wide-a.result * c.args.m ≤ 255 * 6 =
    mul-le-mul c.wide-a.ensures.1 c.requires.0 in
    let k : (c.wide-kind.result - 1) * c.square.result ≤ 255 * 36 =
    mul-le-mul {n₂ = 255} (omega (arith, c.wide-kind.ensures.1)) c.square.ensures.1 in
    let a = c.args in (
      gate_some a.s.now a.m a.at _ _ _ c.wide-kind.ensures.0
          c.wide-a.ensures.0
          c.wide-b.ensures.0 _ c.square.ensures.0,
      omega (arith, c.wide-b.ensures.1),
    )
