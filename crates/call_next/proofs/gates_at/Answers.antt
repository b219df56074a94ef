-- `family::gates_at` meets its contract. Assumes nothing.
use Rattle.call_next.proofs.Shown.{shown_none, shown_one, shown_two}
use Prim.Native.Nat.{◌*◌, ◌≤◌}
use native.Mathlib.Omega.{arith}
use native.Mathlib.Nat.{mul-le-mul}
use Rattle.call_next.proofs.gates_at.Goals as goal

pub returns-then-gates-eq0 : goal.returns-then-gates-eq0
returns-then-gates-eq0 c = let a = c.args in (shown_none a.s.now a.m a.gates c.if-gates-eq0.true, omega arith)

pub returns-then-gates-eq1 : goal.returns-then-gates-eq1
returns-then-gates-eq1 c =
    let a = c.args in
    (shown_one a.s.now a.m a.gates c.if-gates-eq1.true _ c.gate_at.ensures.0, omega (arith, c.gate_at.ensures.1))

pub overflow_mul-result-2 : goal.overflow_mul-result-2
overflow_mul-result-2 c =
    let h : c.gate_at-2.result * (2 * c.square.result) ≤ 20000 * 72 = mul-le-mul {n₂ = 20000} {m₂ = 72} c.gate_at-2.ensures.1
    (omega (arith, c.square.ensures.1)) in
    omega arith

pub overflow_add-result : goal.overflow_add-result
overflow_add-result c =
    let h : c.gate_at-2.result * (2 * c.square.result) ≤ 20000 * 72 =
    mul-le-mul {n₂ = 20000} {m₂ = 72} c.gate_at-2.ensures.1 (omega (arith, c.square.ensures.1)) in
    omega (arith, c.gate_at-3.ensures.1)

pub returns : goal.returns
returns c =
    let h : c.gate_at-2.result * (2 * c.square.result) ≤ 20000 * 72 =
    mul-le-mul {n₂ = 20000} {m₂ = 72} c.gate_at-2.ensures.1 (omega (arith, c.square.ensures.1)) in
    let a = c.args in (
      shown_two a.s.now a.m a.gates (omega arith) _ _ _ c.gate_at-2.ensures.0 c.gate_at-3.ensures.0
          c.square.ensures.0,
      omega (arith, c.gate_at-3.ensures.1),
    )
