-- One word of a stage and a reference: what it means for the checks that the outputs read the answer, and that every high net is acknowledged.
-- Assumes nothing.
use Rattle.std.specs.Prelude.{None}
use Prim.Native.Nat.{ℕ, ◌+◌, ◌*◌}
use native.Mathlib.Omega.{arith}
use mathlib.Core.Path.{◌≡◌}
use mathlib.Core.Bool.{true}
use Rattle.runs.specs.Pair.{Reads}
use Rattle.runs.specs.Checks.{Passes, FallPasses}
use Rattle.runs.specs.Acknowledged.{Acknowledged, FallAcknowledged}
use Rattle.runs.proofs.Tight.{tight_passes}
use Rattle.runs.proofs.Acknowledged.{acknowledged_tight}
use Rattle.runs.proofs.Clear.{clear_fall_passes}
use Rattle.runs.proofs.FallAcknowledged.{fall_acknowledged_clear}
use Rattle.netlist.specs.Content.{Stage, Reference}
use Rattle.verdict.specs.Loops.{LoopFree}
use Rattle.verdict.specs.Nets.{net_of, row_of, rails_for, answer_bits, rest_row, missing_row, held_row}
use Rattle.verdict.specs.Falls.{fallen_but, fallen_keeping}
use Rattle.verdict.proofs.Bridge as bridge
use Rattle.verdict.proofs.OneWord.{wires_data, rest_settled, missing_settled, held_settled, but_settled, keeping_settled}
use Rattle.check_word.specs.declared.Sweep.TheVariants.{Wrong, Missing, Unobserved, Remaining, StillHigh}
use Rattle.check_word.specs.Finds.{finds}
use Rattle.lane_screen.proofs.Tests.{finds_no_wrong, finds_no_missing, finds_no_unobserved, finds_no_remaining, finds_no_still_high}

module _ (s : Stage) (r : Reference) (w : ℕ) (free : LoopFree s.inputs s.gates) where
  pub reads_right : Reads (net_of s) (rest_row s w) (answer_bits r w) → finds Wrong s r w ≡ None
  reads_right = finds_no_wrong s r w

  module _ (reads : Reads (net_of s) (rest_row s w) (answer_bits r w)) (ack : (k : ℕ) → rest_row s w k ≡ true → Acknowledged (net_of s) (rest_row s w) k) where
    passes : Passes (net_of s) (rails_for s w) (answer_bits r w)
    passes =
        tight_passes (bridge.stage_in s free) (rails_for s w) (answer_bits r w) (wires_data s w)
        (acknowledged_tight (bridge.stage_in s free) (rails_for s w) (answer_bits r w) (rest_row s w) (rest_settled s w) reads ack)

    pub acknowledged_complete : finds Missing s r w ≡ None
    acknowledged_complete = finds_no_missing s r w (λ i h d. passes.complete i h (missing_row s w i) (missing_settled s w i) d)

    pub acknowledged_observable : finds Unobserved s r w ≡ None
    acknowledged_observable =
        finds_no_unobserved s r w
        (λ g h u d. passes.observable (rest_row s w) (rest_settled s w) (2 * s.inputs + g) (omega arith) u (held_row s w g) (held_settled s w g h) d)

  module _ (ack : (k : ℕ) → rest_row s w k ≡ true → FallAcknowledged (net_of s) (rest_row s w) k) where
    fall_passes : FallPasses (net_of s) (rails_for s w)
    fall_passes =
        clear_fall_passes (bridge.stage_in s free) (rails_for s w) (wires_data s w)
        (fall_acknowledged_clear (bridge.stage_in s free) (rails_for s w) (rest_row s w) (rest_settled s w) ack)

    pub acknowledged_fall_complete : finds Remaining s r w ≡ None
    acknowledged_fall_complete =
        finds_no_remaining s r w (λ i h n. fall_passes.complete (rest_row s w) (rest_settled s w) i h (row_of (fallen_but s w i)) (but_settled s w i) n)

    pub acknowledged_fall_observable : finds StillHigh s r w ≡ None
    acknowledged_fall_observable =
        finds_no_still_high s r w
        (λ g h u d. fall_passes.observable (rest_row s w) (rest_settled s w) (2 * s.inputs + g) (omega arith) u (row_of (fallen_keeping s w g)) (keeping_settled s w g) d)
