-- How many gates a stage will have, counted before it is made: two for each gate of the reference that is not NOT.
use Rattle.std.specs.Prelude.{ℕ, suc, cond, List, [], ◌∷◌, eqb}
use Rattle.netlist.specs.Coded.{Coded}

-- the gates that are not NOT
unfoldable pub operations : List Coded → ℕ
operations [] = 0
operations (c ∷ cs) = let later = operations cs in cond (eqb c.code 1) later (suc later)
