-- `lane_cells::lone_lanes` meets its contract: whether a pin alone sets a cell is computed. Assumes nothing.
use mathlib.Core.Logic.{⊎_elim}
use Rattle.gates.specs.Cell.{cells, cell_at, set_expression}
use Rattle.runs.proofs.Test.{clash}
use Rattle.lane_cells.proofs.Cells.{lone_sets, none_lone}
use Rattle.lane_cells.proofs.lone_lanes.Goals as goal

pub returns-in-1 : goal.returns-in-1
unfolding set_expression cell_at cells
returns-in-1 c =
    let a = c.args in
    ⊎_elim (λ e. lone_sets 1 a.cell a.a a.b a.c a.d _ e c.at_pins.ensures) (λ e. lone_sets 17 a.cell a.a a.b a.c a.d _ e c.at_pins.ensures)
    c.in-1.is

pub returns-in-3 : goal.returns-in-3
unfolding set_expression cell_at cells
returns-in-3 c = let a = c.args in lone_sets 3 a.cell a.a a.b a.c a.d _ c.in-3.is c.at_pins-in-3.ensures

pub returns-in-8 : goal.returns-in-8
unfolding set_expression cell_at cells
returns-in-8 c = let a = c.args in lone_sets 8 a.cell a.a a.b a.c a.d _ c.in-8.is c.at_pins-in-8.ensures

pub returns-in-6 : goal.returns-in-6
unfolding set_expression cell_at cells
returns-in-6 c =
    let a = c.args in
    ⊎_elim (λ e. lone_sets 6 a.cell a.a a.b a.c a.d _ e c.at_pins-in-6.ensures)
    (⊎_elim (λ e. lone_sets 12 a.cell a.a a.b a.c a.d _ e c.at_pins-in-6.ensures)
    (⊎_elim (λ e. lone_sets 15 a.cell a.a a.b a.c a.d _ e c.at_pins-in-6.ensures) (λ e. lone_sets 21 a.cell a.a a.b a.c a.d _ e c.at_pins-in-6.ensures)))
    c.in-6.is

pub returns-in_default : goal.returns-in_default
returns-in_default c j i h e = absurd (clash e (none_lone _ c.at_pins-in_default.ensures j i h))
