-- `lane_cells::set_lanes` meets its contract: in each arm stands the cell's set expression, to which `cell_lanes` computes. Assumes nothing.
use Prim.Native.Nat.{ℕ}
use native.Mathlib.Omega.{arith}
use mathlib.Core.Path.{◌≡◌, refl, sym, ap, ◌∙◌}
use Rattle.gates.specs.Cell.{cells, cell_at, pin_count, set_expression}
use Rattle.lane_cells.specs.Cells.{cell_lanes}
use Rattle.lane_cells.proofs.set_lanes.Goals as goal

-- a cell that is known to be cell k
arm : (k cell a b c d r : ℕ) → cell ≡ k → r ≡ (cell_lanes k a b c d).set → r ≡ (cell_lanes cell a b c d).set
arm k cell a b c d r e is = is ∙ ap (λ (n : ℕ). (cell_lanes n a b c d).set) (sym e)

pub returns-in-1 : goal.returns-in-1
unfolding cell_lanes set_expression pin_count cell_at cells
returns-in-1 c = arm 1 _ _ _ _ _ _ c.in-1.is refl

pub returns-in-2 : goal.returns-in-2
unfolding cell_lanes set_expression pin_count cell_at cells
returns-in-2 c = arm 2 _ _ _ _ _ _ c.in-2.is refl

pub returns-in-3 : goal.returns-in-3
unfolding cell_lanes set_expression pin_count cell_at cells
returns-in-3 c = arm 3 _ _ _ _ _ _ c.in-3.is refl

pub returns-in-4 : goal.returns-in-4
unfolding cell_lanes set_expression pin_count cell_at cells
returns-in-4 c = arm 4 _ _ _ _ _ _ c.in-4.is refl

pub returns-in-5 : goal.returns-in-5
unfolding cell_lanes set_expression pin_count cell_at cells
returns-in-5 c = arm 5 _ _ _ _ _ _ c.in-5.is refl

pub returns-in-6 : goal.returns-in-6
unfolding cell_lanes set_expression pin_count cell_at cells
returns-in-6 c = arm 6 _ _ _ _ _ _ c.in-6.is refl

pub returns-in-7 : goal.returns-in-7
unfolding cell_lanes set_expression pin_count cell_at cells
returns-in-7 c = arm 7 _ _ _ _ _ _ c.in-7.is refl

pub returns-in-8 : goal.returns-in-8
unfolding cell_lanes set_expression pin_count cell_at cells
returns-in-8 c = arm 8 _ _ _ _ _ _ c.in-8.is refl

pub returns-in-9 : goal.returns-in-9
unfolding cell_lanes set_expression pin_count cell_at cells
returns-in-9 c = arm 9 _ _ _ _ _ _ c.in-9.is refl

pub returns-in-10 : goal.returns-in-10
unfolding cell_lanes set_expression pin_count cell_at cells
returns-in-10 c = arm 10 _ _ _ _ _ _ c.in-10.is refl

pub returns-in-11 : goal.returns-in-11
unfolding cell_lanes set_expression pin_count cell_at cells
returns-in-11 c = arm 11 _ _ _ _ _ _ c.in-11.is refl

pub returns-in-12 : goal.returns-in-12
unfolding cell_lanes set_expression pin_count cell_at cells
returns-in-12 c = arm 12 _ _ _ _ _ _ c.in-12.is refl

pub returns-in-13 : goal.returns-in-13
unfolding cell_lanes set_expression pin_count cell_at cells
returns-in-13 c = arm 13 _ _ _ _ _ _ c.in-13.is refl

pub returns-in-14 : goal.returns-in-14
unfolding cell_lanes set_expression pin_count cell_at cells
returns-in-14 c = arm 14 _ _ _ _ _ _ c.in-14.is refl

pub returns-in-15 : goal.returns-in-15
unfolding cell_lanes set_expression pin_count cell_at cells
returns-in-15 c = arm 15 _ _ _ _ _ _ c.in-15.is refl

pub returns-in-16 : goal.returns-in-16
unfolding cell_lanes set_expression pin_count cell_at cells
returns-in-16 c = arm 16 _ _ _ _ _ _ c.in-16.is refl

pub returns-in-17 : goal.returns-in-17
unfolding cell_lanes set_expression pin_count cell_at cells
returns-in-17 c = arm 17 _ _ _ _ _ _ c.in-17.is refl

pub returns-in-18 : goal.returns-in-18
unfolding cell_lanes set_expression pin_count cell_at cells
returns-in-18 c = arm 18 _ _ _ _ _ _ c.in-18.is refl

pub returns-in-19 : goal.returns-in-19
unfolding cell_lanes set_expression pin_count cell_at cells
returns-in-19 c = arm 19 _ _ _ _ _ _ c.in-19.is refl

pub returns-in-20 : goal.returns-in-20
unfolding cell_lanes set_expression pin_count cell_at cells
returns-in-20 c = arm 20 _ _ _ _ _ _ c.in-20.is refl

pub returns-in-21 : goal.returns-in-21
unfolding cell_lanes set_expression pin_count cell_at cells
returns-in-21 c = arm 21 _ _ _ _ _ _ c.in-21.is refl

pub returns-in-22 : goal.returns-in-22
unfolding cell_lanes set_expression pin_count cell_at cells
returns-in-22 c = arm 22 _ _ _ _ _ _ c.in-22.is refl

pub returns-in-23 : goal.returns-in-23
unfolding cell_lanes set_expression pin_count cell_at cells
returns-in-23 c = arm 23 _ _ _ _ _ _ c.in-23.is refl

pub returns-in-24 : goal.returns-in-24
unfolding cell_lanes set_expression pin_count cell_at cells
returns-in-24 c = arm 24 _ _ _ _ _ _ c.in-24.is refl

pub returns-in-25 : goal.returns-in-25
unfolding cell_lanes set_expression pin_count cell_at cells
returns-in-25 c = arm 25 _ _ _ _ _ _ c.in-25.is refl

pub returns-in-26 : goal.returns-in-26
unfolding cell_lanes set_expression pin_count cell_at cells
returns-in-26 c = arm 26 _ _ _ _ _ _ c.in-26.is refl

pub returns-in_default : goal.returns-in_default
unfolding cell_lanes set_expression pin_count cell_at cells
returns-in_default c =
    let e : c.args.cell ≡ 27 = omega arith in
    arm 27 _ _ _ _ _ _ e refl
