-- `write_joined::put_outputs` meets its contract. The loop's invariant: the outputs before output j are put. Assumes nothing.
use Prim.Native.Nat.{ℕ}
use native.Mathlib.Omega.{arith}
use mathlib.Core.Path.{ap₂}
use Rattle.netlist.specs.declared.File.TheVariants as file
use Rattle.netlist.specs.Writing.{pair_operands, write_item}
use Rattle.circuit.specs.Stage.{output_in, stage_outputs, stage_in}
use Rattle.circuit.proofs.Tabulate.{map_tabulate}
use Rattle.write_command.specs.Parts.{pair_item}
use Rattle.write_command.proofs.Files.{stage_output_width}
use Rattle.write_joined.specs.Moved.{pair_moved}
use Rattle.write_command.proofs.Putting.{put_same, put-start, put_more, put-done}
use Rattle.write_joined.proofs.put_outputs.Goals as goal

pub loop-j-init : goal.loop-j-init
loop-j-init c = put-start file.Stage pair_item 5 (λ p. stage_output_width (pair_operands p)) _ _ _ _ c.requires.2

pub loop-j-preserved : goal.loop-j-preserved
loop-j-preserved c =
    let is = c.rails_of-rails.ensures.is in
    put_more file.Stage pair_item 5 (λ p. stage_output_width (pair_operands p)) _ _ c.loop-j.invariant
    c.loop-j-test.true
    (put_same
    (ap₂ (λ (a b : ℕ). write_item file.Stage (pair_item (record { rail0 = a; rail1 = b }))) (rw is at c.net_in_whole-rail0.ensures)
    (rw is at c.net_in_whole-rail1.ensures))
    c.put_stage_output.ensures)

pub returns : goal.returns
unfolding stage_outputs
returns c =
    rw (map_tabulate (pair_moved (stage_in c.args.place.counts c.args.place.first.now) c.args.place.moved) (output_in c.args.counts c.args.code.now) c.args.counts.outputs)
    (put-done file.Stage pair_item 5 (λ p. stage_output_width (pair_operands p)) _ _ c.loop-j.invariant (omega arith))
