-- 15: a gate held low in a settled row. What stands before it in the order stays right.
-- Assumes nothing.
use Prim.Native.Nat.{ℕ, ◌+◌, ◌*◌, ◌<◌}
use native.Mathlib.Omega.{arith}
use mathlib.Core.Path.{◌≡◌, sym, ap, ◌∙◌, subst}
use mathlib.Core.Bool.{Bool, true, false}
use mathlib.Core.List.{List}
use lib.ListN.{length, get_or, take}
use lib.Seq.{get_or-take, take-take}
use borrow.Author.Tests.{lt-ltb, le-ltb}
use Rattle.netlist.specs.declared.Counts.{Counts}
use Rattle.netlist.specs.Content.{Gate, Pair}
use Rattle.verdict.specs.Words.{rails_in}
use Rattle.verdict.specs.Rows.{high, settled_levels, settled, settled_holding, all_data}
use Rattle.verdict.specs.Levels.{level_holding}
use Rattle.verdict.specs.Checks.{unobservable}
use Rattle.circuit.specs.Stage.{net_count, place_of, stage_gates, stage_outputs, stage_in}
use Rattle.circuit.specs.Order.{order_in, InOrder}
use Rattle.circuit.specs.Rows.{RowFor, nets_in, rail_part, SettledTo, SettledBefore, settled_in, settled_holding_in}
use Rattle.circuit.proofs.Settling.{holding_none, settled_before, length_stage_gates, length_rails, levels_by_holds, order_at}
use Rattle.words.proofs.Rest.{word_length, word_rails_holds}
use Rattle.check_word.specs.Finds.{unobserved}

module _ (c : Counts) (code row : List ℕ) (ordered : InOrder c code) (r : RowFor c row) (is : nets_in c row ≡ settled_in c code row) (g : ℕ)
    (hg : g < c.gates) where
  abbrev gates : List Gate
  gates = stage_gates c code

  abbrev R : List ℕ
  R = rail_part c row

  size : length gates ≡ c.gates
  size = length_stage_gates c code

  level-same : get_or row (2 * c.inputs + g) 0 ≡ get_or (settled gates R) (length R + g) 0
  level-same =
      let e : 2 * c.inputs + g ≡ length R + g = omega (arith, length_rails c row r) in
      sym (get_or-take (net_count c) row (2 * c.inputs + g) 0 (omega arith))
      ∙ ap (λ (l : List ℕ). get_or l (2 * c.inputs + g) 0) is
      ∙ ap (λ (p : ℕ). get_or (settled gates R) p 0) e

  pub unobserved_low : get_or row (2 * c.inputs + g) 0 ≡ 0 → (pairs : List Pair) → false ≡ unobserved gates pairs R g
  unfolding unobserved
  unobserved_low z pairs = rw (le-ltb 0 (get_or (settled gates R) (length R + g) 0) (omega (arith, level-same)), unobserved)

  pub unobserved_high : (get_or row (2 * c.inputs + g) 0 ≡ 0 → ⊥) → (pairs : List Pair) (held : List ℕ) (b : Bool) → rail_part c held ≡ R →
      (nets : List ℕ) →
      nets ≡ settled_holding_in g c code held → b ≡ all_data nets pairs → b ≡ unobserved gates pairs R g
  unfolding unobserved
  unobserved_high d pairs held b same nets e f =
      rw (lt-ltb 0 (get_or (settled gates R) (length R + g) 0) (omega (arith, level-same, d)), unobserved)
      (f ∙ ap (λ (l : List ℕ). all_data l pairs) e ∙ ap (λ (l : List ℕ). all_data (settled_holding g gates l) pairs) same)

  -- what settling from g's place on asks for
  pub hold_before : SettledTo (place_of code g) g c code row
  hold_before =
      let at = ordered.place_in g hg in
      subst (SettledBefore (place_of code g) (level_holding g gates) (order_in c code) R) (holding_none gates R ∙ sym (levels_by_holds c row r R (settled_levels gates R) (length_rails c row r) is))
      (settled_before g gates (order_in c code) R (length gates) (place_of code g)
      (λ i h e.
      omega (
        arith,
        ordered.ordered.once i (place_of code g) (omega (arith, size)) (omega (arith, size))
            (e ∙ sym (order_at c code (place_of code g) at ∙ ordered.stands_there g hg)),
      ))
      (λ i h e. omega (arith, ordered.ordered.gate i (omega (arith, size)))))

-- a copy of a settled row is settled
module _ (c : Counts) (code row : List ℕ) (is : nets_in c row ≡ settled_in c code row) (held : List ℕ) (same : nets_in c held ≡ nets_in c row) where
  pub rails_same : rail_part c held ≡ rail_part c row
  rails_same =
      sym (take-take (2 * c.inputs) (net_count c) held (omega arith)) ∙ ap (take (2 * c.inputs)) same
      ∙ take-take (2 * c.inputs) (net_count c) row (omega arith)

  pub settled_same : nets_in c held ≡ settled_in c code held
  settled_same = same ∙ is ∙ ap (settled (stage_gates c code)) (sym rails_same)

-- ---- the row of word w

pub unobserved_word : (c : Counts) (code row : List ℕ) (w : ℕ) → nets_in c row ≡ settled (stage_gates c code) (rails_in (stage_in c code) w) → (g : ℕ) →
    unobserved (stage_gates c code) (stage_outputs c code) (rail_part c row) g ≡ unobservable (stage_in c code) w g
unfolding unobserved unobservable
unobserved_word c code row w is g =
    let s = stage_in c code in
    ap (λ (l : List ℕ). unobserved s.gates s.outputs l g) (word_rails_holds c code row w is)
    ∙ ap (λ (n : ℕ). elim (high (settled s.gates (rails_in s w)) (n + g)) as
    (λ b. Bool) [ true ↦ all_data (settled_holding g s.gates (rails_in s w)) s.outputs | false ↦ false ])
    (word_length c.inputs w)
