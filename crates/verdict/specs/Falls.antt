-- The way back to NULL: rows settled by the fall rule from the rest of a word.
use Rattle.std.specs.Prelude.{ℕ, Bool, true, false, cond, not, ◌&&◌, ◌||◌, List, ◌++◌, length, get_or, eqb}
use Rattle.gates.specs.Expression.{holds}
use Rattle.gates.specs.Cell.{set_expression, bit}
use Rattle.netlist.specs.Content.{Gate, Stage}
use Rattle.runs.specs.Row.{only}
use Rattle.verdict.specs.Rows.{high, with_null, pin_high, rounds, settled_levels}
use Rattle.verdict.specs.Graph.{any_high, tabulate}
use Rattle.verdict.specs.Words.{rails_in}
use Rattle.verdict.specs.Nets.{no_gate}

-- a gate that is high stays so: one with hold while some pin is high, one without while its set expression holds
unfoldable pub stays : List ℕ → Gate → Bool
stays row g = cond g.hold (any_high row g.pins) (holds (set_expression g.cell) (pin_high row g))

-- the level of gate g by the fall rule, in a row: 1 where it was high at the rest and is kept or stays so, else 0
abbrev pub level_falling : (ℕ → Bool) → List Gate → List ℕ → List ℕ → ℕ → ℕ
level_falling kept gates rest row g = bit (high rest g && (kept g || stays row (get_or gates g no_gate)))

-- Settled by the fall rule, computed: as many rounds as there are gates, each of which sets every gate by the levels before it. That a stage
-- without loops has this row and no other is a theorem.
unfoldable pub fallen_levels : (ℕ → Bool) → List Gate → List ℕ → List ℕ → List ℕ
fallen_levels kept gates rest rails =
    rounds (λ levels. tabulate (level_falling kept gates rest (rails ++ levels)) (length gates)) (length gates) (length gates)

-- from the rest of word w, with the inputs of a set fallen, the gates of a set kept high and the others settled so
unfoldable pub fallen : Stage → ℕ → (ℕ → Bool) → (ℕ → Bool) → List ℕ
fallen s w missing kept =
    let rails = rails_in s w in
    let left = with_null missing rails in
    left ++ fallen_levels kept s.gates (settled_levels s.gates rails) left

-- with all inputs fallen but i; and with all inputs fallen and gate g held high
abbrev pub fallen_but : Stage → ℕ → ℕ → List ℕ
fallen_but s w i = fallen s w (λ k. not (eqb k i)) (λ g. false)

abbrev pub fallen_keeping : Stage → ℕ → ℕ → List ℕ
fallen_keeping s w g = fallen s w (λ k. true) (only g)
