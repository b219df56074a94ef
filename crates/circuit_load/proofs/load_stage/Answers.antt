-- `circuit_load::load_stage` meets its contract. The loop's invariant: the numbers of the gates and the first j that follow them are written. Assumes nothing.
use Prim.Native.Nat.{◌*◌}
use mathlib.Core.Path.{refl, ◌∙◌}
use native.Mathlib.Omega.{arith}
use lib.ListN.{length-set}
use Rattle.circuit_load.proofs.Numbers.{write_next, stage_gate_holds, stage_later}
use Rattle.circuit_load.proofs.Reading.{gate_room}
use Rattle.circuit_load.proofs.Stages.{stage_same, raw_loaded}
use Rattle.circuit_load.proofs.load_stage.Goals as goal

pub load_gates-requires : goal.load_gates-requires
load_gates-requires c =
    let r = c.requires.0.file_read in
    (omega (arith, r.room, r.within.gates_in_holds), gate_room c.args.most c.args.s.now c.args.places.now c.args.counts c.requires.0, omega (arith, c.requires.2))

pub loop-j-init : goal.loop-j-init
loop-j-init c =
    let put = c.load_gates.ensures in
    (refl, λ q h. put.written q (omega arith) ∙ stage_gate_holds c.args.most c.args.s.now c.args.places.now c.args.counts c.args.ground q (omega arith))

pub loop-j-preserved : goal.loop-j-preserved
loop-j-preserved c =
    let l = c.loop-j in (
      simp length-set l.invariant.0,
      write_next _ l.code (8 * c.args.counts.gates) l.j _ (omega (arith, l.invariant.0, c.load_gates.ensures.long, c.requires.2, c.loop-j-test.true)) l.invariant.1
          (c.output_number.ensures ∙ stage_later c.args.most c.args.s.now c.args.places.now c.args.counts c.args.ground l.j),
    )

pub returns : goal.returns
returns c =
    let l = c.loop-j in record {
      same = stage_same c.args.most c.args.s.now c.args.places.now c.args.counts l.code c.args.ground c.requires.0 (omega arith) (λ q h. l.invariant.1 q (omega arith));
      raw = raw_loaded c.args.most c.args.s.now c.args.places.now c.args.counts l.code c.args.ground c.requires.0 (omega arith)
          (λ q h. l.invariant.1 q (omega arith)) c.requires.1;
    }
