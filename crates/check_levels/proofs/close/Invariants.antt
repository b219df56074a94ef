-- `check_levels::close` meets its contract. The loop's invariant: the registers before j were gone through. Assumes nothing.
use mathlib.Core.Path.{◌≡◌}
use lib.ListN.{length}
use Rattle.wiring_spec.specs.Parts.{Pipeline}
use Rattle.check_levels.specs.Graph.{SourcesOf}
use Rattle.check_levels.proofs.Closing.{Closing}
use Rattle.check_levels.proofs.close.Given as goal

abbrev pub invariant-loop-j : goal.invariant-loop-j
invariant-loop-j l = (length l.sources ≡ length l.initial.sources) × ((p : Pipeline) → SourcesOf p l.initial.sources → Closing p l.initial.sources l.sources l.j)
