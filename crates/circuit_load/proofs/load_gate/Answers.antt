-- `circuit_load::load_gate` meets its contract. Assumes nothing.
use mathlib.Core.Path.{sym, ◌∙◌}
use Rattle.write_command.proofs.Putting.{put_same}
use Rattle.circuit_load.proofs.Numbers.{gate_held, gate_relaxed, gate_unknown}
use Rattle.circuit_load.proofs.load_gate.Goals as goal

pub returns-in-Hold : goal.returns-in-Hold
returns-in-Hold c = put_same (gate_held _ _ _ _ _ (sym c.in-Hold.is ∙ c.kind_of-kind.ensures)) c.put_cell.ensures

pub returns-in-Relaxed : goal.returns-in-Relaxed
returns-in-Relaxed c = put_same (gate_relaxed _ _ _ _ _ (sym c.in-Relaxed.is ∙ c.kind_of-kind.ensures)) c.put_cell-in-Relaxed.ensures

pub returns-in-Unknown : goal.returns-in-Unknown
returns-in-Unknown c = put_same (gate_unknown _ _ _ (sym c.in-Unknown.is ∙ c.kind_of-kind.ensures)) c.put_gate.ensures
