-- The row that is settled in word w: its rails, and the levels of its gates.
-- Assumes nothing.
use Prim.Native.Nat.{ℕ, ◌*◌}
use native.Mathlib.Omega.{arith}
use mathlib.Core.Path.{◌≡◌, sym, ap, ◌∙◌}
use mathlib.Core.List.{List}
use lib.ListN.{length, take}
use lib.Seq.{take-append_seam, take-take}
use Rattle.netlist.specs.declared.Counts.{Counts}
use Rattle.verdict.specs.Words.{bits_of, rails_of, rails_in}
use Rattle.verdict.specs.Rows.{settled_levels, settled}
use Rattle.verdict.proofs.Words.{bits_of_length, rails_length}
use Rattle.circuit.specs.Stage.{net_count, stage_gates, stage_in}
use Rattle.circuit.specs.Rows.{RowFor, nets_in, rail_part, level_part, settled_in}
use Rattle.circuit.proofs.Settling.{levels_by_holds}

pub word_length : (n w : ℕ) → length (rails_of (bits_of n w)) ≡ 2 * n
word_length n w = rails_length (bits_of n w) ∙ ap (λ (k : ℕ). 2 * k) (bits_of_length n w)

module _ (c : Counts) (code row : List ℕ) (w : ℕ) (is : nets_in c row ≡ settled (stage_gates c code) (rails_in (stage_in c code) w)) where
  pub word_rails_holds : rail_part c row ≡ rails_in (stage_in c code) w
  word_rails_holds =
      let rails = rails_in (stage_in c code) w in
      sym (take-take (2 * c.inputs) (net_count c) row (omega arith))
      ∙ ap (take (2 * c.inputs)) is
      ∙ ap (λ (n : ℕ). take n (settled (stage_gates c code) rails)) (sym (word_length c.inputs w))
      ∙ take-append_seam rails (settled_levels (stage_gates c code) rails)

  pub settled_word : nets_in c row ≡ settled_in c code row
  settled_word = is ∙ ap (settled (stage_gates c code)) (sym word_rails_holds)

  pub word_levels : RowFor c row → level_part c row ≡ settled_levels (stage_gates c code) (rails_in (stage_in c code) w)
  word_levels r = let rails = rails_in (stage_in c code) w in levels_by_holds c row r rails (settled_levels (stage_gates c code) rails) (word_length c.inputs w) is
