-- `write_joined::put_signals` meets its contract. The loop's invariant: the outputs before output j are put. Assumes nothing.
use Prim.Native.Nat.{ℕ}
use native.Mathlib.Omega.{arith}
use mathlib.Core.Path.{ap, ◌∙◌}
use mathlib.Core.List.{[], ◌∷◌}
use Rattle.netlist.specs.declared.File.TheVariants as file
use Rattle.netlist.specs.Writing.{write_item}
use Rattle.circuit.specs.Reference.{signal_in, signals_in, reference_in}
use Rattle.circuit.proofs.Tabulate.{map_tabulate}
use Rattle.write_command.specs.Parts.{signal_item}
use Rattle.write_command.proofs.Files.{reference_output_width}
use Rattle.write_joined.specs.Moved.{signal_moved}
use Rattle.write_command.proofs.Putting.{put_same, put-start, put_more, put-done}
use Rattle.write_joined.proofs.put_signals.Goals as goal

pub loop-j-init : goal.loop-j-init
loop-j-init c = put-start file.Reference signal_item 3 (λ v. reference_output_width (v ∷ [])) _ _ _ _ c.requires.2

pub loop-j-preserved : goal.loop-j-preserved
loop-j-preserved c =
    put_more file.Reference signal_item 3 (λ v. reference_output_width (v ∷ [])) _ _ c.loop-j.invariant
    c.loop-j-test.true
    (put_same (ap (λ (v : ℕ). write_item file.Reference (signal_item v))
    (c.signal_in_whole-signal.ensures ∙ ap (signal_moved _ _)
    c.signal_of-own.ensures.is)) c.put_reference_output.ensures)

pub returns : goal.returns
unfolding signals_in
returns c =
    rw (map_tabulate (signal_moved (reference_in c.args.place.counts c.args.place.first.now) c.args.place.moved) (signal_in c.args.sizes c.args.reference.now) c.args.sizes.outputs)
    (put-done file.Reference signal_item 3 (λ v. reference_output_width (v ∷ [])) _ _ c.loop-j.invariant (omega arith))
