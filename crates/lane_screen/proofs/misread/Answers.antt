-- `lane_screen::misread` meets its contract. Assumes nothing.
use mathlib.Core.Path.{◌≡◌, sym, ap, ◌∙◌}
use mathlib.Core.Bool.{Bool, true, false, not}
use Rattle.runs.specs.Row.{Row}
use Rattle.runs.specs.Pair.{DataOf}
use Rattle.netlist.specs.Content.{Pair}
use Rattle.verdict.specs.Nets.{rail_of}
use Rattle.circuit.specs.declared.form.Rails.{Rails}
use Rattle.lane_cells.specs.Lane.{lane, row_in}
use Rattle.lane_screen.proofs.Gathering.{read_as}
use Rattle.lane_screen.proofs.misread.Goals as goal

-- two rails as DATA
as_data : (r : Row) (p : Pair) (b : Bool) → r p.rail0 ≡ not b → r p.rail1 ≡ b → DataOf r (rail_of p) b
as_data r p true x y = (y, x)
as_data r p false x y = (x, y)

pub returns : goal.returns
returns c l d e =
    let rails = c.rails_of-rails.ensures.is in
    let row = c.args.row.now in
    let both = read_as l c.lanes_at-rail0.result c.lanes_at-rail1.result c.args.value d e in
    as_data (row_in l row) _ (lane l c.args.value) (sym (ap (lane l) c.lanes_at-rail0.ensures ∙ ap (λ (r : Rails). row_in l row r.rail0) rails) ∙ both.0)
    (sym (ap (lane l) c.lanes_at-rail1.ensures ∙ ap (λ (r : Rails). row_in l row r.rail1) rails) ∙ both.1)
