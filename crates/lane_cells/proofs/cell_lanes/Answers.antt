-- `lane_cells::cell_lanes` meets its contract: in each arm stand the cell's set expression and what is left of it with each pin low, and `cell_lanes`
-- computes to them. Assumes nothing.
use Prim.Native.Nat.{ℕ, ◌≤◌}
use native.Mathlib.Omega.{arith}
use mathlib.Core.Path.{◌≡◌, sym, ap, ◌∙◌}
use Rattle.gates.specs.Cell.{cells, cell_at, pin_count, set_expression}
use Rattle.lane_cells.specs.declared.CellLanes.{CellLanes}
use Rattle.lane_cells.specs.Lane.{level_in}
use Rattle.lane_cells.specs.Cells.{cell_lanes, CellGives}
use Rattle.lane_cells.proofs.Table.{lanes_agree}
use Rattle.lane_cells.proofs.cell_lanes.Goals as goal

-- what a cell gives, known to be cell k
known : (k cell a b c d : ℕ) (r : CellLanes) → (1 ≤ cell) × (cell ≤ 27) → cell ≡ k → r ≡ cell_lanes k a b c d → CellGives cell a b c d r
known k cell a b c d r low e h =
    let is = h ∙ ap (λ (n : ℕ). cell_lanes n a b c d) (sym e) in
    record { lanes = is; entry = λ table t j. ap (λ (x : CellLanes). level_in j x.set) is ∙ lanes_agree j a b c d table t cell low.0 low.1 }

pub returns-in-1 : goal.returns-in-1
unfolding cell_lanes set_expression pin_count cell_at cells
returns-in-1 c = known 1 _ _ _ _ _ _ c.requires c.in-1.is c.two.ensures

pub returns-in-2 : goal.returns-in-2
unfolding cell_lanes set_expression pin_count cell_at cells
returns-in-2 c = known 2 _ _ _ _ _ _ c.requires c.in-2.is c.two-in-2.ensures

pub returns-in-3 : goal.returns-in-3
unfolding cell_lanes set_expression pin_count cell_at cells
returns-in-3 c = known 3 _ _ _ _ _ _ c.requires c.in-3.is c.three.ensures

pub returns-in-4 : goal.returns-in-4
unfolding cell_lanes set_expression pin_count cell_at cells
returns-in-4 c = known 4 _ _ _ _ _ _ c.requires c.in-4.is c.three-in-4.ensures

pub returns-in-5 : goal.returns-in-5
unfolding cell_lanes set_expression pin_count cell_at cells
returns-in-5 c = known 5 _ _ _ _ _ _ c.requires c.in-5.is c.three-in-5.ensures

pub returns-in-6 : goal.returns-in-6
unfolding cell_lanes set_expression pin_count cell_at cells
returns-in-6 c = known 6 _ _ _ _ _ _ c.requires c.in-6.is c.three-in-6.ensures

pub returns-in-7 : goal.returns-in-7
unfolding cell_lanes set_expression pin_count cell_at cells
returns-in-7 c = known 7 _ _ _ _ _ _ c.requires c.in-7.is c.three-in-7.ensures

pub returns-in-8 : goal.returns-in-8
unfolding cell_lanes set_expression pin_count cell_at cells
returns-in-8 c = known 8 _ _ _ _ _ _ c.requires c.in-8.is c.four.ensures

pub returns-in-9 : goal.returns-in-9
unfolding cell_lanes set_expression pin_count cell_at cells
returns-in-9 c = known 9 _ _ _ _ _ _ c.requires c.in-9.is c.four-in-9.ensures

pub returns-in-10 : goal.returns-in-10
unfolding cell_lanes set_expression pin_count cell_at cells
returns-in-10 c = known 10 _ _ _ _ _ _ c.requires c.in-10.is c.four-in-10.ensures

pub returns-in-11 : goal.returns-in-11
unfolding cell_lanes set_expression pin_count cell_at cells
returns-in-11 c = known 11 _ _ _ _ _ _ c.requires c.in-11.is c.four-in-11.ensures

pub returns-in-12 : goal.returns-in-12
unfolding cell_lanes set_expression pin_count cell_at cells
returns-in-12 c = known 12 _ _ _ _ _ _ c.requires c.in-12.is c.four-in-12.ensures

pub returns-in-13 : goal.returns-in-13
unfolding cell_lanes set_expression pin_count cell_at cells
returns-in-13 c = known 13 _ _ _ _ _ _ c.requires c.in-13.is c.four-in-13.ensures

pub returns-in-14 : goal.returns-in-14
unfolding cell_lanes set_expression pin_count cell_at cells
returns-in-14 c = known 14 _ _ _ _ _ _ c.requires c.in-14.is c.four-in-14.ensures

pub returns-in-15 : goal.returns-in-15
unfolding cell_lanes set_expression pin_count cell_at cells
returns-in-15 c = known 15 _ _ _ _ _ _ c.requires c.in-15.is c.four-in-15.ensures

pub returns-in-16 : goal.returns-in-16
unfolding cell_lanes set_expression pin_count cell_at cells
returns-in-16 c = known 16 _ _ _ _ _ _ c.requires c.in-16.is c.four-in-16.ensures

pub returns-in-17 : goal.returns-in-17
unfolding cell_lanes set_expression pin_count cell_at cells
returns-in-17 c = known 17 _ _ _ _ _ _ c.requires c.in-17.is c.four-in-17.ensures

pub returns-in-18 : goal.returns-in-18
unfolding cell_lanes set_expression pin_count cell_at cells
returns-in-18 c = known 18 _ _ _ _ _ _ c.requires c.in-18.is c.four-in-18.ensures

pub returns-in-19 : goal.returns-in-19
unfolding cell_lanes set_expression pin_count cell_at cells
returns-in-19 c = known 19 _ _ _ _ _ _ c.requires c.in-19.is c.four-in-19.ensures

pub returns-in-20 : goal.returns-in-20
unfolding cell_lanes set_expression pin_count cell_at cells
returns-in-20 c = known 20 _ _ _ _ _ _ c.requires c.in-20.is c.four-in-20.ensures

pub returns-in-21 : goal.returns-in-21
unfolding cell_lanes set_expression pin_count cell_at cells
returns-in-21 c = known 21 _ _ _ _ _ _ c.requires c.in-21.is c.four-in-21.ensures

pub returns-in-22 : goal.returns-in-22
unfolding cell_lanes set_expression pin_count cell_at cells
returns-in-22 c = known 22 _ _ _ _ _ _ c.requires c.in-22.is c.four-in-22.ensures

pub returns-in-23 : goal.returns-in-23
unfolding cell_lanes set_expression pin_count cell_at cells
returns-in-23 c = known 23 _ _ _ _ _ _ c.requires c.in-23.is c.four-in-23.ensures

pub returns-in-24 : goal.returns-in-24
unfolding cell_lanes set_expression pin_count cell_at cells
returns-in-24 c = known 24 _ _ _ _ _ _ c.requires c.in-24.is c.four-in-24.ensures

pub returns-in-25 : goal.returns-in-25
unfolding cell_lanes set_expression pin_count cell_at cells
returns-in-25 c = known 25 _ _ _ _ _ _ c.requires c.in-25.is c.four-in-25.ensures

pub returns-in-26 : goal.returns-in-26
unfolding cell_lanes set_expression pin_count cell_at cells
returns-in-26 c = known 26 _ _ _ _ _ _ c.requires c.in-26.is c.four-in-26.ensures

pub returns-in_default : goal.returns-in_default
unfolding cell_lanes set_expression pin_count cell_at cells
returns-in_default c =
    let e : c.args.cell ≡ 27 = omega arith in
    known 27 _ _ _ _ _ _ c.requires e c.four-in_default.ensures
