-- `call_make::put_stage` meets its contract. Its parts are put one after the other. Assumes nothing.
use Prim.Native.Nat.{ℕ}
use native.Mathlib.Omega.{arith}
use mathlib.Core.Path.{refl}
use lib.ListN.{length-replicate}
use Rattle.call_make.proofs.Answering.{made_long, made_put}
use Rattle.call_make.proofs.put_stage.Goals as goal

pub put_inputs-requires : goal.put_inputs-requires
put_inputs-requires c =
    (omega (arith, c.requires.3, made_long c.args.sizes c.args.reference.now), omega (arith, c.requires.0.within.inputs_in))

pub put_gates-made-requires : goal.put_gates-made-requires
put_gates-made-requires c =
    let p = c.requires.0.within in
    let i = c.input_rails.ensures in (
      c.requires.0,
      c.requires.1,
      omega (arith, p.inputs_in, p.gates_in_holds, i.1, length-replicate {A = ℕ} 1044 0),
      i.0,
      c.requires.2,
      omega (arith, c.requires.3, made_long c.args.sizes c.args.reference.now, c.put_inputs.ensures.long),
    )

pub put_outputs-requires : goal.put_outputs-requires
put_outputs-requires c =
    let p = c.requires.0.within in
    let i = c.input_rails.ensures in
    let long = made_long c.args.sizes c.args.reference.now in
    let g = c.put_gates-made.ensures in (
      c.requires.0,
      omega (arith, p.inputs_in, p.gates_in_holds, i.1, g.rails.1, length-replicate {A = ℕ} 1044 0),
      omega (arith, c.requires.3, long, c.put_inputs.ensures.long, g.count, g.put.long),
    )

pub put_end-requires : goal.put_end-requires
put_end-requires c =
    let g = c.put_gates-made.ensures in
    let long = made_long c.args.sizes c.args.reference.now in
    omega (arith, c.requires.3, long, c.put_inputs.ensures.long, g.count, g.put.long, c.put_outputs.ensures.long)

pub returns : goal.returns
returns c =
    let g = c.put_gates-made.ensures in
    made_put c.args.sizes c.args.reference.now _ c.requires.1 c.put_inputs.ensures g.put
    c.put_outputs.ensures c.put_end.ensures
    g.rails.0 (omega (arith, g.count)) refl
