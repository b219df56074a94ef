-- A cell in 64 words and the table of 432 entries agree: in each word it is set where the table says so of that word's pattern.
-- Assumes nothing.
use Prim.Native.Nat.{ℕ, zero, suc, ◌/◌, ◌%◌, ◌^◌, ◌≤◌, ◌<◌}
use native.Mathlib.Omega.{arith}
use mathlib.Core.Path.{◌≡◌, refl, sym, ap, ◌∙◌}
use mathlib.Core.List.{List}
use lib.Dec.{eqb}
use Rattle.gates.specs.Cell.{set_expression, pin_of, bit, set_bit}
use Rattle.gates.specs.Table.{entry_of, GateTable}
use Rattle.gates.proofs.Expressions.{holds_local}
use Rattle.lane_cells.specs.Lane.{level_in}
use Rattle.lane_cells.specs.Cells.{pins_in, pattern_in, cell_lanes}
use Rattle.lane_cells.proofs.Lane.{level_small}
use Rattle.lane_cells.proofs.Cells.{set_holds}

bit-level : (x : ℕ) → x ≤ 1 → x ≡ bit (eqb x 1)
bit-level zero h = refl
bit-level (suc zero) h = refl
bit-level (suc (suc x)) h = absurd (omega arith)

module _ (j a b c d : ℕ) where
  abbrev pattern : ℕ
  pattern = pattern_in j a b c d

  pin_0 : pattern / 2 ^ 0 % 2 ≡ level_in j a
  pin_0 = omega (arith, level_small j a, level_small j b, level_small j c, level_small j d)

  pin_1 : pattern / 2 ^ 1 % 2 ≡ level_in j b
  pin_1 = omega (arith, level_small j a, level_small j b, level_small j c, level_small j d)

  pin_2 : pattern / 2 ^ 2 % 2 ≡ level_in j c
  pin_2 = omega (arith, level_small j a, level_small j b, level_small j c, level_small j d)

  pin_3 : pattern / 2 ^ 3 % 2 ≡ level_in j d
  pin_3 = omega (arith, level_small j a, level_small j b, level_small j c, level_small j d)

  in_table : pattern < 16
  in_table = omega (arith, level_small j a, level_small j b, level_small j c, level_small j d)

  is_one : {x y : ℕ} → x ≡ y → eqb y 1 ≡ eqb x 1
  is_one e = sym (ap (λ (n : ℕ). eqb n 1) e)

  set-bit : (cell : ℕ) → level_in j (cell_lanes cell a b c d).set ≡ set_bit cell pattern
  unfolding set_bit
  set-bit cell =
      bit-level (level_in j (cell_lanes cell a b c d).set) (level_small j (cell_lanes cell a b c d).set)
      ∙ ap bit
      (set_holds cell j a b c d ∙ holds_local (set_expression cell) (pins_in j a b c d) (pin_of pattern) (is_one pin_0) (is_one pin_1) (is_one pin_2) (is_one pin_3))

  pub lanes_agree : (table : List (List ℕ)) → GateTable table → (cell : ℕ) → 1 ≤ cell → cell ≤ 27
      → level_in j (cell_lanes cell a b c d).set ≡ entry_of table cell (pattern_in j a b c d)
  lanes_agree table is cell low high = set-bit cell ∙ sym (is.row cell pattern low high in_table)
