-- `write_made::put_xor` meets its contract. Assumes nothing.
use Rattle.write_made.proofs.Operations.{put_two}
use Rattle.write_made.proofs.put_xor.Goals as goal

pub returns : goal.returns
returns c = put_two _ _ c.put_stage_gate.ensures c.put_stage_gate-2.ensures
