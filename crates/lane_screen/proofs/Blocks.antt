-- A word of a block that is not named has no such fault.
-- Assumes nothing.
use Prim.Native.Nat.{ℕ, ◌+◌, ◌*◌, ◌<◌}
use native.Mathlib.Omega.{arith}
use mathlib.Core.Path.{◌≡◌, sym, ap, ◌∙◌}
use mathlib.Core.Bool.{Bool, true, false}
use mathlib.Core.List.{List}
use lib.ListN.{get_or, take}
use lib.Seq.{get_or-take}
use lib.Dec.{eqb}
use lib.Bits.{bit_or}
use Rattle.runs.specs.Row.{Row}
use Rattle.runs.specs.Pair.{DataOf, Reads}
use Rattle.runs.proofs.Test.{clash}
use Rattle.netlist.specs.declared.Counts.{Counts}
use Rattle.netlist.specs.Content.{Pair, Reference}
use Rattle.verdict.specs.Words.{bits_of}
use Rattle.verdict.specs.Answers.{signal_values, answer}
use Rattle.verdict.specs.Nets.{rail_of, answer_bits}
use Rattle.circuit.specs.Stage.{output_in, stage_in}
use Rattle.circuit.specs.Order.{InOrder}
use Rattle.circuit.specs.Reference.{operators_in, signal_in, signals_in, reference_in, ReferenceLoaded}
use Rattle.circuit.proofs.Tabulate.{get_d_tabulate, map_tabulate}
use Rattle.check_word.specs.declared.Sweep.TheVariants.{Remaining, StillHigh}
use Rattle.check_word.specs.Loaded.{BothLoaded}
use Rattle.lane_cells.specs.Lane.{lane, row_in, lane_of}
use Rattle.lane_cells.proofs.Blocks.{level_at, all-at}
use Rattle.lane_settle.specs.Block.{rest_in, net_in, AtRest}
use Rattle.lane_screen.specs.Marks.{AcknowledgedBut}
use Rattle.lane_screen.specs.Suspects.{CleanIn, RiseClean}
use Rattle.lane_screen.proofs.Outputs.{output_at, length_outputs}
use Rattle.lane_settle.proofs.Settling.{free}
use Rattle.lane_screen.proofs.Gathering.{neither}
use Rattle.lane_screen.proofs.OneWord.{reads_right, acknowledged_complete, acknowledged_observable, acknowledged_fall_complete, acknowledged_fall_observable}

-- the values of a reference's signals in word j are its answer
answer-in : (c : Counts) (code : List ℕ) → ReferenceLoaded c code → (values : List ℕ) (j w : ℕ)
    → take (c.inputs + c.gates) (lane_of j values) ≡ signal_values (bits_of c.inputs w) (operators_in c code) → (o : ℕ) → o < c.outputs
    → row_in j values (signal_in c code o) ≡ answer_bits (reference_in c code) w o
unfolding answer signals_in
answer-in c code loaded values j w e o h =
    ap (λ (x : ℕ). eqb x 1)
    (sym (level_at j values (signal_in c code o))
    ∙ sym (get_or-take (c.inputs + c.gates) (lane_of j values) (signal_in c code o) 0 (loaded.signal o h))
    ∙ ap (λ (l : List ℕ). get_or l (signal_in c code o) 0) e
    ∙ sym (ap (λ (l : List ℕ). get_or l o 0) (map_tabulate (λ (v : ℕ). get_or (signal_values (bits_of c.inputs w) (operators_in c code)) v 0) (signal_in c code) c.outputs)
    ∙ get_d_tabulate (λ i. get_or (signal_values (bits_of c.inputs w) (operators_in c code)) (signal_in c code i) 0) c.outputs o 0 h))

-- the rails of a pair in one row and in another that is the same there
same-data : (r s : Row) (p : Pair) (b : Bool) → r p.rail0 ≡ s p.rail0 → r p.rail1 ≡ s p.rail1 → DataOf r (rail_of p) b → DataOf s (rail_of p) b
same-data r s p true x y d = (sym y ∙ d.0, sym x ∙ d.1)
same-data r s p false x y d = (sym x ∙ d.0, sym y ∙ d.1)

module _ (c : Counts) (code : List ℕ) (sizes : Counts) (reference : List ℕ) (both : BothLoaded c code sizes reference) (b : ℕ) (row : List ℕ) (rest : AtRest c code b row) where
  module _ (values : List ℕ) (wrong unacknowledged : ℕ)
      (answers : (j : ℕ) → j < 64 → take (sizes.inputs + sizes.gates) (lane_of j values) ≡ signal_values (bits_of sizes.inputs (64 * b + j)) (operators_in sizes reference))
      (right : (j : ℕ) → j < 64 → lane j wrong ≡ false → (o : ℕ) → o < c.outputs → DataOf (row_in j row) (rail_of (output_in c code o)) (row_in j values (signal_in sizes reference o)))
      (rises : AcknowledgedBut false c code b unacknowledged) where
    reads : (j : ℕ) → j < 64 → lane j wrong ≡ false → Reads (net_in c code) (rest_in c code b j) (answer_bits (reference_in sizes reference) (64 * b + j))
    reads j d e o l =
        let h : o < c.outputs = omega (arith, length_outputs c code) in
        let x = same-data (row_in j row) (rest_in c code b j) (output_in c code o) (row_in j values (signal_in sizes reference o)) (rest j _ d (both.stage.rail0_net o h))
        (rest j _ d (both.stage.rail1_net o h)) (right j d e o h) in
        rw (output_at c code o h, ← answer-in sizes reference both.answers values j (64 * b + j) (answers j d) o (omega (arith, both.outputs))) x

    pub rise_clean : RiseClean (stage_in c code) (reference_in sizes reference) b (record { wrong = wrong; all = bit_or wrong unacknowledged })
    rise_clean = record {
      wrong = λ j d e. reads_right (stage_in c code) (reference_in sizes reference) (64 * b + j) (free c code both.ordered) (reads j d e);
      missing = λ j d e.
          let n = neither j wrong unacknowledged e in
          acknowledged_complete (stage_in c code) (reference_in sizes reference) (64 * b + j) (free c code both.ordered) (reads j d n.0) (rises j d n.1);
      unobserved = λ j d e.
          let n = neither j wrong unacknowledged e in
          acknowledged_observable (stage_in c code) (reference_in sizes reference) (64 * b + j) (free c code both.ordered) (reads j d n.0) (rises j d n.1);
    }

-- nothing is asked of words that are all named
pub all_named : (falls : Bool) (c : Counts) (code : List ℕ) (b : ℕ) → AcknowledgedBut falls c code b 0xFFFF_FFFF_FFFF_FFFF
all_named falls c code b j d e p u = absurd (clash (ap (λ (x : ℕ). eqb x 1) (all-at j d)) e)

-- on the way back
module _ (c : Counts) (code : List ℕ) (ordered : InOrder c code) (r : Reference) (b fall : ℕ) (falls : AcknowledgedBut true c code b fall) where
  pub fall_complete : CleanIn Remaining (stage_in c code) r b fall
  fall_complete j d e = acknowledged_fall_complete (stage_in c code) r (64 * b + j) (free c code ordered) (falls j d e)

  pub fall_observable : CleanIn StillHigh (stage_in c code) r b fall
  fall_observable j d e = acknowledged_fall_observable (stage_in c code) r (64 * b + j) (free c code ordered) (falls j d e)
