-- `check_levels::level_registers` meets its contract. The loop's invariant: the levels are those after so many rounds. Assumes nothing.
use Prim.Native.Nat.{ℕ, ◌<◌}
use mathlib.Core.Path.{◌≡◌}
use lib.ListN.{length, get_or}
use Rattle.wiring_spec.specs.Parts.{Pipeline, register_count}
use Rattle.wiring_spec.specs.Passing.{ReachesOn}
use Rattle.check_levels.specs.Graph.{SourcesOf}
use Rattle.check_levels.proofs.Raising.{Round}
use Rattle.check_levels.proofs.level_registers.Given as goal

abbrev pub invariant-loop-round : goal.invariant-loop-round
invariant-loop-round l = (length l.levels ≡ length l.initial.levels)
    × ((p : Pipeline) → SourcesOf p l.sources → ((k : ℕ) → ¬ (ReachesOn p k k)) → ((t : ℕ) → t < register_count p → get_or l.initial.levels t 0 ≡ 1) → Round p l.levels l.known l.round)
