-- `family::write_stage` meets its contract. Assumes nothing.
use native.Mathlib.Omega.{arith}
use Prim.Native.Nat.{◌+◌, ◌*◌}
use Rattle.next_spec.specs.Numbered.{lists}
use Rattle.next_spec.proofs.Digits.{quotient_low}
use Rattle.call_next.proofs.Stores.{below, output_small, stage_put}
use Rattle.call_next.proofs.write_stage.Goals as goal

pub put_gates-requires : goal.put_gates-requires
put_gates-requires c =
    let a = c.args in
    let m = 2 * a.inputs + a.gates in
    let h = c.square-k.ensures in (
      c.requires.0,
      quotient_low c.square-k.result (omega (arith, h, c.requires.0.inputs_in)) a.number (lists m a.gates)
          (below m a.gates a.number c.square-k.result h.0 c.requires.1),
      omega (arith, c.requires.2, c.put_inputs.ensures.long),
    )

pub overflow_cast-y : goal.overflow_cast-y
overflow_cast-y c =
    let i = c.requires.0 in
    let h =
    output_small (2 * c.args.inputs + c.args.gates) c.args.number _ (omega (arith, i.inputs_in)) (omega (arith, i.inputs_in, i.gates_in_holds))
    c.square-k.ensures.0 in
    omega (arith, h.0)

pub overflow_cast-y-2 : goal.overflow_cast-y-2
overflow_cast-y-2 c =
    let i = c.requires.0 in
    let h =
    output_small (2 * c.args.inputs + c.args.gates) c.args.number _ (omega (arith, i.inputs_in)) (omega (arith, i.inputs_in, i.gates_in_holds))
    c.square-k.ensures.0 in
    omega (arith, h.1)

pub returns : goal.returns
returns c =
    let a = c.args in
    stage_put a.inputs a.gates a.number _ c.requires.0
    c.square-k.ensures.0
    c.put_inputs.ensures
    c.put_gates.ensures
    c.put_stage_output.ensures
    c.put_end.ensures
