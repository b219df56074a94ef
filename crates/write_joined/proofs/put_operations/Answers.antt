-- `write_joined::put_operations` meets its contract. The loop's invariant: the gates before gate k are put. Assumes nothing.
use native.Mathlib.Omega.{arith}
use Rattle.netlist.specs.declared.File.TheVariants as file
use Rattle.netlist.specs.Writing.{gate}
use Rattle.circuit.specs.Reference.{operator_in, operators_in, reference_in}
use Rattle.circuit.proofs.Tabulate.{map_tabulate}
use Rattle.write_command.proofs.Files.{reference_gate_width}
use Rattle.write_joined.specs.Moved.{operation_moved}
use Rattle.write_command.proofs.Putting.{put-start, put_more, put-done}
use Rattle.write_joined.proofs.put_operations.Goals as goal

pub loop-k-init : goal.loop-k-init
loop-k-init c = put-start file.Reference gate 6 reference_gate_width _ _ _ _ c.requires.2

pub loop-k-preserved : goal.loop-k-preserved
loop-k-preserved c = put_more file.Reference gate 6 reference_gate_width _ _ c.loop-k.invariant c.loop-k-test.true
    c.put_operation.ensures

pub returns : goal.returns
unfolding operators_in
returns c =
    rw (map_tabulate (operation_moved (reference_in c.args.place.counts c.args.place.first.now) c.args.place.moved) (operator_in c.args.reference.now) c.args.sizes.gates)
    (put-done file.Reference gate 6 reference_gate_width _ _ c.loop-k.invariant (omega arith))
