-- `write_made::put_and` meets its contract. Assumes nothing.
use mathlib.Core.List.{[], ◌∷◌}
use Rattle.netlist.specs.declared.File.TheVariants as file
use Rattle.write_command.proofs.Files.{gate_absent}
use Rattle.write_command.proofs.Putting.{put_same}
use Rattle.write_made.proofs.Operations.{put_two}
use Rattle.write_made.proofs.put_and.Goals as goal

pub returns : goal.returns
returns c =
    let z = c.args in
    put_two _ _ (put_same (gate_absent file.Stage 2 (z.a1 ∷ z.b1 ∷ []) 2) c.put_stage_gate.ensures) c.put_stage_gate-2.ensures
