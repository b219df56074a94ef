-- `write_joined::put_gates` meets its contract. The loop's invariant: the gates before gate k are put. Assumes nothing.
use native.Mathlib.Omega.{arith}
use Rattle.netlist.specs.declared.File.TheVariants as file
use Rattle.netlist.specs.Writing.{coded_gate}
use Rattle.circuit.specs.Stage.{gate_in, stage_gates, stage_in}
use Rattle.circuit.proofs.Tabulate.{map_tabulate}
use Rattle.write_command.specs.Parts.{gate_item}
use Rattle.write_command.proofs.Files.{stage_gate_width}
use Rattle.write_joined.specs.Moved.{gate_moved}
use Rattle.write_command.proofs.Putting.{put-start, put_more, put-done}
use Rattle.write_joined.proofs.put_gates.Goals as goal

pub loop-k-init : goal.loop-k-init
loop-k-init c = put-start file.Stage gate_item 10 (λ g. stage_gate_width (coded_gate g)) _ _ _ _ c.requires.2

pub loop-k-preserved : goal.loop-k-preserved
loop-k-preserved c = put_more file.Stage gate_item 10 (λ g. stage_gate_width (coded_gate g)) _ _ c.loop-k.invariant
    c.loop-k-test.true c.put_gate.ensures

pub returns : goal.returns
unfolding stage_gates
returns c =
    rw (map_tabulate (gate_moved (stage_in c.args.place.counts c.args.place.first.now) c.args.place.moved) (gate_in c.args.code.now) c.args.counts.gates)
    (put-done file.Stage gate_item 10 (λ g. stage_gate_width (coded_gate g)) _ _ c.loop-k.invariant (omega arith))
