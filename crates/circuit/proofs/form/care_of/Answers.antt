-- `circuit::form::care_of` meets its contract. Assumes nothing.
use Prim.Native.Nat.{◌+◌, ◌*◌}
use native.Mathlib.Omega.{arith}
use mathlib.Core.Path.{◌≡◌}
use Rattle.circuit.proofs.form.care_of.Goals as goal

pub overflow_cast-result : goal.overflow_cast-result
overflow_cast-result c = let a = c.args in omega (arith, c.shared_slice_known-1.given (8 * a.counts.gates + (2 * a.counts.outputs + a.i)))

pub returns : goal.returns
returns c =
    let a = c.args in
    let e : 8 * a.counts.gates + (2 * a.counts.outputs + a.i) ≡ 8 * a.counts.gates + 2 * a.counts.outputs + a.i = omega arith in
    record { is = rw e; small = omega (arith, c.shared_slice_known-1.given (8 * a.counts.gates + (2 * a.counts.outputs + a.i))) }
