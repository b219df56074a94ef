-- `call_make::put_outputs` meets its contract. The loop's invariant: the outputs before output j are put. Assumes nothing.
use Prim.Native.Nat.{ℕ, ◌+◌, ◌*◌, ◌≤◌, ◌<◌}
use native.Mathlib.Omega.{arith}
use mathlib.Core.Path.{sym, ap}
use mathlib.Core.List.{List}
use lib.ListN.{length}
use Rattle.netlist.specs.declared.File.TheVariants as file
use Rattle.netlist.specs.Writing.{output, write_item}
use Rattle.write_command.specs.Parts.{bytes_of}
use Rattle.write_command.proofs.Files.{stage_output_width}
use Rattle.write_made.specs.Rails.{pair_stored}
use Rattle.verdict.specs.Graph.{tabulate}
use Rattle.write_command.proofs.Putting.{put_same, PutTo, put-start, put_room, put_more, put-done}
use Rattle.circuit.proofs.Tabulate.{map_tabulate}
use Rattle.circuit.specs.Reference.{signals_in}
use Rattle.call_make.proofs.put_outputs.Goals as goal

-- room for the next output
room_at : (g : ℕ → List ℕ) (m : ℕ) {at k : ℕ} {buffer₀ buffer : List ℕ} → PutTo file.Stage output 5 (tabulate g m) buffer₀ at buffer k → k < m → at + 5 * k + 5 ≤ length buffer
room_at g m p l = put_room file.Stage output 5 stage_output_width g m p l

pub loop-j-init : goal.loop-j-init
loop-j-init c = put-start file.Stage output 5 stage_output_width _ _ _ _ c.requires.2

pub loop-j-preserved : goal.loop-j-preserved
loop-j-preserved c =
    put_more file.Stage output 5 stage_output_width _ _ c.loop-j.invariant
    c.loop-j-test.true
    (put_same (ap (λ (p : List ℕ). write_item file.Stage (output p))
    (rw c.signal_of-signal.ensures.is at c.rails_of-pair.ensures)) c.put_stage_output.ensures)

pub returns : goal.returns
unfolding signals_in
returns c =
    put_same (ap (bytes_of file.Stage output) (sym (map_tabulate (pair_stored c.args.rails.now) _ c.args.sizes.outputs)))
    (put-done file.Stage output 5 stage_output_width _ _ c.loop-j.invariant (omega arith))
