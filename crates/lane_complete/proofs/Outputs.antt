-- Words in which every output passes a test, gathered in a mask.
-- Assumes nothing.
use Prim.Native.Nat.{ℕ, zero, suc, ◌+◌, ◌≤◌, ◌<◌}
use native.Mathlib.Omega.{arith}
use Rattle.std.proofs.Common.{add-one}
use mathlib.Core.Path.{◌≡◌, refl, sym, ap, ap₂, ◌∙◌}
use mathlib.Core.Bool.{Bool, true, false, not, ◌||◌}
use mathlib.Core.List.{List}
use lib.ListN.{get_or}
use lib.Dec.{eqb}
use lib.Bits.{bit_and, bit_or, bit_xor}
use Rattle.runs.specs.Row.{Row}
use Rattle.runs.specs.Pair.{Data, Null, AllData, AllNull}
use Rattle.runs.proofs.Test.{clash, and_in}
use Rattle.netlist.specs.declared.Counts.{Counts}
use Rattle.verdict.specs.Nets.{rail_of}
use Rattle.circuit.specs.Stage.{output_in, StageLoaded}
use Rattle.circuit.specs.Form.{rails_in}
use Rattle.lane_cells.specs.Lane.{lane}
use Rattle.lane_cells.proofs.Lane.{lane_and, lane_or, unlike, lane_xor}
use Rattle.lane_cells.proofs.Blocks.{all-at, lane_not}
use Rattle.lane_settle.specs.Block.{NetsOf}
use Rattle.lane_screen.proofs.Outputs.{output_at, length_outputs}
use Rattle.lane_complete.specs.Rows.{OnlyIn, passing}

-- a word in which the first n pass is named
abbrev pub EveryTo : (Row → (Bool → ℕ) → Type 0) → Counts → List ℕ → List ℕ → ℕ → ℕ → Type 0
EveryTo Test c code row words n =
    (rows : ℕ → Row) → NetsOf c rows row → (j : ℕ) → j < 64 → ((o : ℕ) → o < n → Test (rows j) (rail_of (output_in c code o))) → lane j words ≡ true

module _ (Test : Row → (Bool → ℕ) → Type 0) (c : Counts) (code row : List ℕ) where
  pub every_start : EveryTo Test c code row 0xFFFF_FFFF_FFFF_FFFF 0
  every_start rows is j d t = ap (λ (x : ℕ). eqb x 1) (all-at j d)

  every_more : (words n x : ℕ) → EveryTo Test c code row words n
      → ((rows : ℕ → Row) → NetsOf c rows row → (j : ℕ) → j < 64 → Test (rows j) (rail_of (output_in c code n)) → lane j x ≡ true) → EveryTo Test c code row (bit_and words x) (suc n)
  every_more words n x s new rows is j d t =
      lane_and j words x ∙ and_in (lane j words) (lane j x) (s rows is j d (λ o h. t o (omega arith))) (new rows is j d (t n (omega arith)))

  -- in the end
  pub every_only : (words n : ℕ) → c.outputs ≡ n → EveryTo Test c code row words n → (rows : ℕ → Row) → NetsOf c rows row
      → OnlyIn (λ N r. (j : ℕ) → j < N.outputs → Test r (N.rail j)) c code rows words
  every_only words n e s rows is j d low all =
      clash (s rows is j d (λ o h. rw (output_at c code o (omega arith)) at (all o (omega (arith, length_outputs c code))))) low

module _ (c : Counts) (code row : List ℕ) (loaded : StageLoaded c code) (n : ℕ) (h : n < c.outputs) where
  abbrev zero_lanes : ℕ
  zero_lanes = get_or row (rails_in c code n).rail0 0

  abbrev one_lanes : ℕ
  one_lanes = get_or row (rails_in c code n).rail1 0

  module _ (rows : ℕ → Row) (nets : NetsOf c rows row) (j : ℕ) (d : j < 64) where
    zero_lane : lane j zero_lanes ≡ rows j (output_in c code n).rail0
    zero_lane = nets j _ d (loaded.rail0_net n h)

    one_lane : lane j one_lanes ≡ rows j (output_in c code n).rail1
    one_lane = nets j _ d (loaded.rail1_net n h)

  differs : (a b : Bool) → a ≡ not b → unlike a b ≡ true
  differs true true e = absurd (clash refl e)
  differs true false e = refl
  differs false true e = refl
  differs false false e = absurd (clash refl (sym e))

  data_more : (words : ℕ) → EveryTo Data c code row words n → EveryTo Data c code row (bit_and words (bit_xor zero_lanes one_lanes)) (suc n)
  data_more words s = every_more Data c code row words n _ s (λ rows nets j d t.
      lane_xor j zero_lanes one_lanes ∙ ap₂ unlike (zero_lane rows nets j d) (one_lane rows nets j d) ∙ differs _ _ t)

  null_more : (words : ℕ) → EveryTo Null c code row words n
      → EveryTo Null c code row (bit_and words (bit_xor (bit_or zero_lanes one_lanes) 0xFFFF_FFFF_FFFF_FFFF)) (suc n)
  null_more words s = every_more Null c code row words n _ s (λ rows nets j d t.
      lane_not j (bit_or zero_lanes one_lanes) d
      ∙ ap not (lane_or j zero_lanes one_lanes ∙ ap₂ (λ (a b : Bool). a || b) (zero_lane rows nets j d ∙ t.0) (one_lane rows nets j d ∙ t.1)))

-- ---- tests of the two rails of an output

abbrev pub by_data : ℕ → ℕ → ℕ
by_data a b = bit_xor a b

abbrev pub by_null : ℕ → ℕ → ℕ
by_null a b = bit_xor (bit_or a b) 0xFFFF_FFFF_FFFF_FFFF

pub passing-suc : (test : ℕ → ℕ → ℕ) (c : Counts) (code row : List ℕ) (n : ℕ) → passing test c code row (n + 1)
    ≡ bit_and (passing test c code row n) (test (get_or row (rails_in c code n).rail0 0) (get_or row (rails_in c code n).rail1 0))
unfolding passing
passing-suc test c code row n = rw add-one refl

pub passing-zero : (test : ℕ → ℕ → ℕ) (c : Counts) (code row : List ℕ) → passing test c code row 0 ≡ 0xFFFF_FFFF_FFFF_FFFF
unfolding passing
passing-zero test c code row = refl

module _ (c : Counts) (code row : List ℕ) (loaded : StageLoaded c code) where
  all_data_to : (n : ℕ) → n ≤ c.outputs → EveryTo Data c code row (passing by_data c code row n) n
  unfolding passing
  all_data_to zero h = every_start Data c code row
  all_data_to (suc n) h = data_more c code row loaded n (omega arith) _ (all_data_to n (omega arith))

  all_null_to : (n : ℕ) → n ≤ c.outputs → EveryTo Null c code row (passing by_null c code row n) n
  unfolding passing
  all_null_to zero h = every_start Null c code row
  all_null_to (suc n) h = null_more c code row loaded n (omega arith) _ (all_null_to n (omega arith))

  pub data_only : (words : ℕ) → words ≡ passing by_data c code row c.outputs → (rows : ℕ → Row) → NetsOf c rows row → OnlyIn AllData c code rows words
  data_only words e = rw e (every_only Data c code row _ c.outputs refl (all_data_to c.outputs (omega arith)))

  pub null_only : (words : ℕ) → words ≡ passing by_null c code row c.outputs → (rows : ℕ → Row) → NetsOf c rows row → OnlyIn AllNull c code rows words
  null_only words e = rw e (every_only Null c code row _ c.outputs refl (all_null_to c.outputs (omega arith)))
