-- The signals that are outputs or lead to one, found by going through the gates once, the last first.
use Rattle.std.specs.Prelude.{ℕ, suc, cond, List, [], ◌∷◌, set}
use Rattle.netlist.specs.Content.{Coded}
use Rattle.verdict.specs.Rows.{high}

-- some signals marked by 1
unfoldable pub marked : List ℕ → List ℕ → List ℕ
marked marks [] = marks
marked marks (x ∷ xs) = marked (set marks x 1) xs

-- with the gates from signal s on: the operands of each gate that is marked, of the last first
unfoldable pub marked_from : ℕ → List Coded → List ℕ → List ℕ
marked_from s [] marks = marks
marked_from s (c ∷ cs) marks = let later = marked_from (suc s) cs marks in cond (high later s) (marked later c.operands) later
