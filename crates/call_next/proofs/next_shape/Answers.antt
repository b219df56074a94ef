-- `family::next_shape` meets its contract. Assumes nothing.
use Prim.Native.Nat.{◌+◌, ◌*◌, ◌-◌}
use native.Mathlib.Omega.{arith}
use Rattle.call_next.proofs.Searching.{first_shape, first-none}
use Rattle.call_next.proofs.next_shape.Goals as goal

pub returns-then-gates-lt2 : goal.returns-then-gates-lt2
returns-then-gates-lt2 c =
    let a = c.args in
    let i = c.requires.inputs_in in
    first_shape a.inputs (a.gates + 1) (3 * (a.inputs - 1) + a.gates + 1) (record { inputs_in = (omega arith, omega arith); gates_in_holds = omega arith })
    (omega arith)

pub returns-then-inputs-lt2 : goal.returns-then-inputs-lt2
returns-then-inputs-lt2 c =
    let a = c.args in
    let i = c.requires.inputs_in in
    let j = c.requires.gates_in_holds in
    first_shape (a.inputs + 1) 0 (3 * (a.inputs - 1) + a.gates + 1) (record { inputs_in = (omega arith, omega arith); gates_in_holds = omega arith }) (omega arith)

pub returns : goal.returns
returns c =
    let a = c.args in
    let i = c.requires.inputs_in in
    let j = c.requires.gates_in_holds in
    first-none (3 * (a.inputs - 1) + a.gates + 1) (omega arith)
