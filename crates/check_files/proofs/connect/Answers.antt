-- `check_files::connect` meets its contract. Assumes nothing.
use Rattle.circuit_wire.proofs.Stage.{wired_copy}
use Rattle.check_files.proofs.connect.Goals as goal

pub returns : goal.returns
returns c =
    record { resolved = c.resolve_rails.ensures; wired = wired_copy _ _ _ _ _ _ _ c.copy.ensures c.wire_stage.ensures }
