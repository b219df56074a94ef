-- `write_joined::put_care_words` meets its contract. The loop's invariant: the care words before word k are put. Assumes nothing.
use Prim.Native.Nat.{ℕ}
use native.Mathlib.Omega.{arith}
use mathlib.Core.Path.{ap}
use Rattle.netlist.specs.declared.File.TheVariants as file
use Rattle.netlist.specs.Writing.{care, write_item}
use Rattle.circuit.specs.Stage.{stage_care}
use Rattle.write_command.proofs.Files.{care_width}
use Rattle.write_command.proofs.Putting.{put_same, put-start, put_more, put-done}
use Rattle.write_joined.proofs.put_care_words.Goals as goal

pub overflow_cast-w : goal.overflow_cast-w
overflow_cast-w c = omega (arith, c.care_of-w.ensures.small)

pub loop-k-init : goal.loop-k-init
loop-k-init c = put-start file.Stage care 3 care_width _ _ _ _ c.requires.1

pub loop-k-preserved : goal.loop-k-preserved
loop-k-preserved c = put_more file.Stage care 3 care_width _ _ c.loop-k.invariant c.loop-k-test.true
    (put_same (ap (λ (w : ℕ). write_item file.Stage (care w)) c.care_of-w.ensures.is) c.put_care.ensures)

pub returns : goal.returns
unfolding stage_care
returns c = put-done file.Stage care 3 care_width _ _ c.loop-k.invariant (omega arith)
