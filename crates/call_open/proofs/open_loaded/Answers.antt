-- `call_open::open_loaded` meets its contract. Assumes nothing.
use Prim.Native.Nat.{◌+◌, ◌*◌, ◌≤◌}
use native.Mathlib.Nat.{mul-le-mul}
use native.Mathlib.Omega.{arith}
use mathlib.Core.Path.{refl}
use mathlib.Core.Logic.{inl, inr}
use Rattle.call_open.proofs.Files.{loop-found, none_found}
use Rattle.call_open.proofs.open_loaded.Goals as goal

pub returns-in-Some : goal.returns-in-Some
returns-in-Some c =
    record { by = inl (_, loop-found c.args.counts c.args.code.now _ _ c.order_gates.ensures _ c.in-Some.is, c.fault.ensures) }

pub overflow_mul-each : goal.overflow_mul-each
overflow_mul-each c =
    let h : c.args.each * (2 * c.args.counts.inputs + c.args.counts.gates) ≤ 2 * 276 =
    mul-le-mul {n₂ = 2} {m₂ = 276} c.requires.1 (omega (arith, c.requires.0.within.inputs_in, c.requires.0.within.gates_in_holds)) in
    omega arith

pub returns-then-given-each : goal.returns-then-given-each
returns-then-given-each c =
    record { by = inr (none_found c.args.counts c.args.code.now _ _ c.order_gates.ensures c.in_default.is, c.if-given-each.true, c.fault-then-given-each.ensures) }

pub returns : goal.returns
returns c =
    let l = c.order_gates.ensures in
    record { by = (refl, none_found c.args.counts c.args.code.now _ _ l c.in_default.is, c.if-given-each.false, l.loaded, l.same) }
