-- The lines of a report: line k says how many gates are high in the word that name k spells.
-- Assumes nothing.
use Prim.Native.Nat.{ℕ, zero, suc, ◌<◌}
use native.Mathlib.Omega.{arith}
use mathlib.Core.Path.{◌≡◌, refl, ◌∙◌}
use mathlib.Core.List.{List, [], ◌∷◌, map}
use lib.ListN.{length, get_or, length-map}
use Rattle.netlist.specs.Content.{Stage}
use Rattle.verdict.specs.declared.WordOrder.{WordOrder}
use Rattle.verdict.specs.Words.{spelled, names}
use Rattle.report_spec.specs.High.{gates_high}
use Rattle.call_report.specs.Report.{by_name, lines}

-- a member of a list to which a function was applied
pub map_at : (f : ℕ → ℕ) (l : List ℕ) (k : ℕ) → k < length l → get_or (map f l) k 0 ≡ f (get_or l k 0)
map_at f [] k h = absurd (omega arith)
map_at f (x ∷ l) zero h = refl
map_at f (x ∷ l) (suc k) h = map_at f l k (omega arith)

module _ (order : WordOrder) (s : Stage) where
  pub lines_long : length (lines order s) ≡ length (names order s)
  lines_long = length-map (by_name order s) (gates_high s) ∙ length-map (names order s) (spelled order s.inputs)
