-- The rest of a word in a row of a flat form, and what the gates fall to from it.
use Rattle.std.specs.Prelude.{ℕ, ◌≡◌, not, List, ◌++◌, eqb}
use Rattle.runs.specs.Row.{only}
use Rattle.netlist.specs.declared.Counts.{Counts}
use Rattle.verdict.specs.Rows.{with_null, settled}
use Rattle.verdict.specs.Words.{rails_in}
use Rattle.verdict.specs.Falls.{fallen_levels}
use Rattle.circuit.specs.Stage.{stage_gates, stage_in}
use Rattle.circuit.specs.Rows.{nets_in, rail_part, level_part}

-- the nets of a row are at the rest of word w
abbrev pub RestOf : Counts → List ℕ → List ℕ → ℕ → Type 0
RestOf c code row w = nets_in c row ≡ settled (stage_gates c code) (rails_in (stage_in c code) w)

-- settled by the fall rule from the rest in a row, with all inputs NULL but i and gate g kept high
unfoldable pub fallen_from : Counts → List ℕ → List ℕ → ℕ → ℕ → List ℕ
fallen_from c code row i g =
    let left = with_null (λ k. not (eqb k i)) (rail_part c row) in
    left ++ fallen_levels (only g) (stage_gates c code) (level_part c row) left
