-- The rails of the outputs, and marks at them.
-- Assumes nothing.
use Prim.Native.Nat.{ℕ, ◌<◌}
use mathlib.Core.Path.{◌≡◌, refl, sym, ap, ◌∙◌}
use mathlib.Core.Bool.{Bool, true, false}
use mathlib.Core.Logic.{◌⊎◌, inl, inr}
use mathlib.Core.List.{List}
use lib.ListN.{length, get_or}
use Rattle.runs.specs.Net.{Net}
use Rattle.runs.specs.Acknowledged.{output, fall_output}
use Rattle.runs.proofs.Test.{clash}
use Rattle.netlist.specs.declared.Counts.{Counts}
use Rattle.verdict.specs.Nets.{no_pair, output_pair}
use Rattle.circuit.specs.Stage.{net_count, output_in, stage_outputs, stage_in}
use Rattle.circuit.proofs.Tabulate.{length_tabulate, get_d_tabulate}
use Rattle.lane_cells.specs.Lane.{lane, row_in}
use Rattle.lane_cells.proofs.Lane.{lane_zero}
use Rattle.lane_settle.specs.Block.{rest_in, net_in, AcknowledgedIn, MarkedIn}
use Rattle.lane_settle.proofs.Marks.{MarkedMore}
use Rattle.lane_screen.specs.Marks.{AlwaysAcknowledged}

pub output_at : (c : Counts) (code : List ℕ) (j : ℕ) → j < c.outputs → output_pair (stage_in c code) j ≡ output_in c code j
unfolding stage_outputs
output_at c code j h = get_d_tabulate (output_in c code) c.outputs j no_pair h

pub length_outputs : (c : Counts) (code : List ℕ) → length (stage_outputs c code) ≡ c.outputs
unfolding stage_outputs
length_outputs c code = length_tabulate (output_in c code) c.outputs

rail-acknowledged : (N : Net) (j : ℕ) (b : Bool) (p : ℕ) → j < N.outputs → N.rail j b ≡ p → AlwaysAcknowledged N p
rail-acknowledged N j b p h e false R = output j b h e
rail-acknowledged N j b p h e true R = fall_output j b h e

-- marks more, all of them at rails of outputs
pub record OutputsTo (N : Net) (start ack : List ℕ) : Type 0 where
  pub same_long : length ack ≡ length start
  pub marked : (j p : ℕ) → row_in j ack p ≡ true → (row_in j start p ≡ true) ⊎ AlwaysAcknowledged N p

pub outputs_start : (N : Net) (start : List ℕ) → OutputsTo N start start
outputs_start N start = record { same_long = refl; marked = λ j p e. inl e }

pub outputs_more : (N : Net) (start ack : List ℕ) → OutputsTo N start ack → (j : ℕ) (b : Bool) (net words : ℕ) (ack' : List ℕ) → j < N.outputs → N.rail j b ≡ net
    → length ack' ≡ length ack → MarkedMore ack net words ack' → OutputsTo N start ack'
outputs_more N start ack s j b net words ack' h is long more = record { same_long = long ∙ s.same_long; marked = λ l p e. go l p (more l p e) }
  where
    go : (l p : ℕ) → (row_in l ack p ≡ true) ⊎ ((p ≡ net) × (lane l words ≡ true)) → (row_in l start p ≡ true) ⊎ AlwaysAcknowledged N p
    go l p (inl x) = s.marked l p x
    go l p (inr x) = inr (rail-acknowledged N j b p h (is ∙ sym x.0))

-- marks that begin with none
pub outputs_marked : (falls : Bool) (c : Counts) (code : List ℕ) (b : ℕ) (start ack : List ℕ) → ((p : ℕ) → p < net_count c → get_or start p 0 ≡ 0)
    → ((j p : ℕ) → row_in j ack p ≡ true → (row_in j start p ≡ true) ⊎ AlwaysAcknowledged (net_in c code) p) → MarkedIn falls c code b ack
outputs_marked falls c code b start ack low more j p d h e = go (more j p e)
  where
    go : (row_in j start p ≡ true) ⊎ AlwaysAcknowledged (net_in c code) p → AcknowledgedIn falls (net_in c code) (rest_in c code b j) p
    go (inl x) = absurd (clash x (ap (lane j) (low p h) ∙ lane_zero j))
    go (inr x) = x falls (rest_in c code b j)
