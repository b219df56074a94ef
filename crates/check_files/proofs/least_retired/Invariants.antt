-- `check_files::least_retired` meets its contract. The loop's invariant: no gate before k is of a retired kind. Assumes nothing.
use Rattle.verdict.specs.Retired.{retired_at}
use Rattle.verdict.proofs.Least.{SoughtTo}
use Rattle.circuit.specs.Stage.{stage_gates}
use Rattle.check_files.proofs.least_retired.Given as goal

abbrev pub invariant-loop-k : goal.invariant-loop-k
invariant-loop-k l = SoughtTo (retired_at (stage_gates l.counts l.code)) l.counts.gates l.k
