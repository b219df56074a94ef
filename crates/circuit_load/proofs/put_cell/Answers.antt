-- `circuit_load::put_cell` meets its contract. Assumes nothing.
use Rattle.write_command.proofs.Putting.{put_same}
use Rattle.circuit_load.proofs.put_cell.Goals as goal

pub returns : goal.returns
returns c =
    put_same (rw (← c.pin_number-a.ensures, ← c.pin_number-b.ensures, ← c.pin_number-c.ensures, ← c.pin_number-d.ensures))
    c.put_gate.ensures
