-- A row of a stage that is made of the rails, the part of it that settles, and the row that is lent.
-- Assumes nothing.
use Prim.Native.Nat.{ℕ, ◌+◌, ◌-◌, ◌*◌, ◌≤◌, ◌<◌}
use native.Mathlib.Omega.{arith}
use native.Mathlib.Decide.{dec_lt}
use mathlib.Core.Path.{◌≡◌, sym, ap, ap₂, ◌∙◌}
use mathlib.Core.List.{List, [], ◌++◌, append-nil}
use lib.ListN.{length, get_or, take, drop, replicate, length-append, length-drop, length-replicate, get_or-replicate, get_or-append, get_or-eq_default}
use lib.Seq.{take_all, drop-length, take-append_seam, get_or-append-add, get_or-drop, get_or-take, length-take-le}
use Rattle.netlist.specs.declared.Counts.{Counts}
use Rattle.netlist.specs.Reading.{stage_limits, Within}
use Rattle.verdict.specs.Rows.{settled_levels, settled}
use Rattle.circuit.specs.Stage.{net_count, stage_gates}
use Rattle.circuit.specs.Rows.{row_size, RowFor, nets_in, rail_part, level_part, settled_in}
use Rattle.circuit.proofs.Settling.{levels_by_holds}

-- ---- the rails, and low levels after them

module _ (c : Counts) (within : Within stage_limits c) (rails row : List ℕ) (both : length rails ≡ 2 * c.inputs) (bits : (p : ℕ) → get_or rails p 0 ≤ 1)
    (is : row ≡ rails ++ drop (length rails) (replicate row_size 0)) where
  abbrev low : List ℕ
  low = drop (length rails) (replicate row_size 0)

  whole : row ≡ rails ++ low
  whole = is

  after : (p : ℕ) → 2 * c.inputs ≤ p → p ≤ net_count c → get_or row p 0 ≡ 0
  after p h l =
      let e : p ≡ length rails + (p - length rails) = omega arith in
      ap (λ (x : List ℕ). get_or x p 0) whole ∙ ap (λ (q : ℕ). get_or (rails ++ low) q 0) e ∙ get_or-append-add rails low (p - length rails) 0
      ∙ get_or-drop (length rails) (replicate row_size 0) (p - length rails) 0
      ∙ get_or-replicate row_size (length rails + (p - length rails)) 0 0 (omega (arith, within.inputs_in, within.gates_in_holds))

  bit_at : (p : ℕ) → p ≤ net_count c → Dec (p < 2 * c.inputs) → get_or row p 0 ≤ 1
  bit_at p h (yes l) = omega (arith, bits p, ap (λ (x : List ℕ). get_or x p 0) whole, get_or-append rails low 0 p (omega arith))
  bit_at p h (no l) = omega (arith, after p (omega arith) h)

  pub rails_row : RowFor c row
  rails_row = record {
    long = omega (
      arith,
      ap length whole,
      length-append rails low,
      length-drop (length rails)
          (replicate {A = ℕ} row_size 0),
      length-replicate {A = ℕ} row_size 0,
      within.inputs_in,
      within.gates_in_holds,
    );
    bit = λ p h. bit_at p h (dec_lt p (2 * c.inputs));
    ground = after (net_count c) (omega arith) (omega arith);
  }

  pub rails_part : rail_part c row ≡ rails
  rails_part = ap (take (2 * c.inputs)) whole ∙ ap (λ (n : ℕ). take n (rails ++ low)) (sym both) ∙ take-append_seam rails low

-- ---- the levels that settle

-- the part of a settled row that was copied out is its levels
pub part_settled : (c : Counts) (code rails row row' : List ℕ) → RowFor c row' → length rails ≡ 2 * c.inputs → rail_part c row ≡ rails →
    nets_in c row' ≡ settled_in c code row →
    (first end : ℕ) → first ≡ 2 * c.inputs → end ≡ first + c.gates → (part' : List ℕ) → part' ≡ take (end - first) (drop first row') →
    part' ≡ settled_levels (stage_gates c code) rails
part_settled c code rails row row' r both same is first end a b part' e =
    let g : end - first ≡ c.gates = omega arith in
    let levels : take (end - first) (drop first row') ≡ level_part c row' = ap₂ {C = List ℕ} (λ n m. take n (drop m row')) g a in
    e ∙ levels ∙ levels_by_holds c row' r rails (settled_levels (stage_gates c code) rails) both (is ∙ ap (settled (stage_gates c code)) same)

-- ---- the row that is lent

module _ (c : Counts) (row : List ℕ) (long : length row ≡ 2 * c.inputs + c.gates) where
  pub part_long : length (take (length row - 2 * c.inputs) (drop (2 * c.inputs) row)) ≡ c.gates
  part_long =
      ap length (take_all (length row - 2 * c.inputs) (drop (2 * c.inputs) row) (omega (arith, length-drop (2 * c.inputs) row)))
      ∙ omega (arith, length-drop (2 * c.inputs) row)

  pub first_long : length (take (2 * c.inputs) row) ≡ 2 * c.inputs
  first_long = length-take-le (2 * c.inputs) row (omega arith)

  -- the rails were copied out of it, before what stood there
  pub first_copied : (copy rest : List ℕ) → copy ≡ take (2 * c.inputs) row → take (2 * c.inputs) (copy ++ rest) ≡ take (2 * c.inputs) row
  first_copied copy rest e =
      ap (λ (k : ℕ). take k (copy ++ rest)) (sym (ap length e ∙ first_long)) ∙ take-append_seam copy rest ∙ e

  pub first_bits : ((p : ℕ) → p < 2 * c.inputs → get_or row p 0 ≤ 1) → (p : ℕ) → get_or (take (2 * c.inputs) row) p 0 ≤ 1
  first_bits bits p = go (dec_lt p (2 * c.inputs))
    where
      go : Dec (p < 2 * c.inputs) → get_or (take (2 * c.inputs) row) p 0 ≤ 1
      go (yes h) = omega (arith, get_or-take (2 * c.inputs) row p 0 h, bits p h)
      go (no h) = omega (arith, get_or-eq_default (take (2 * c.inputs) row) 0 {n = p} (omega (arith, first_long)))

  none_left_lem : drop (length row - 2 * c.inputs) (drop (2 * c.inputs) row) ≡ []
  none_left_lem = ap (λ (k : ℕ). drop k (drop (2 * c.inputs) row)) (sym (length-drop (2 * c.inputs) row)) ∙ drop-length (drop (2 * c.inputs) row)

  pub row_settled : (code rails levels : List ℕ) → rails ≡ take (2 * c.inputs) row → levels ≡ settled_levels (stage_gates c code) rails →
      take (2 * c.inputs) row ++ (levels ++ drop (length row - 2 * c.inputs) (drop (2 * c.inputs) row)) ≡ settled (stage_gates c code)
      (take (2 * c.inputs) row)
  row_settled code rails levels e f =
      ap (λ (l : List ℕ). take (2 * c.inputs) row ++ l)
      (ap (λ (l : List ℕ). levels ++ l) none_left_lem ∙ append-nil levels ∙ f ∙ ap (settled_levels (stage_gates c code)) e)
