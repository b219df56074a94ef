-- The unweighted cells THmn: "an unweighted THmn is set exactly if at least m of its pins are high".
use Rattle.std.specs.Prelude.{ℕ, ◌^◌, ◌<◌, ◌≡◌, List, [], ◌∷◌}
use Prim.Native.String.{String}
use Rattle.gates.specs.Cell.{cell_at, pin_count, set_bit, at_least}

pub record Unweighted : Type 0 where
  pub cell : ℕ
  pub name : String
  pub m : ℕ
  pub n : ℕ

abbrev thmn : ℕ → String → ℕ → ℕ → Unweighted
thmn cell name m n = record { cell = cell; name = name; m = m; n = n }

-- all of them; the other eighteen cells are weighted or no threshold gates
unfoldable pub unweighted_cells : List Unweighted
unweighted_cells =
    thmn 1 "TH12" 1 2 ∷
    thmn 2 "TH22" 2 2 ∷
    thmn 3 "TH13" 1 3 ∷
    thmn 4 "TH23" 2 3 ∷
    thmn 5 "TH33" 3 3 ∷
    thmn 8 "TH14" 1 4 ∷
    thmn 9 "TH24" 2 4 ∷
    thmn 10 "TH34" 3 4 ∷
    thmn 11 "TH44" 4 4 ∷
    []

-- it is the cell of that name, it has n pins, and the count of high pins decides it
pub record SetByCount (u : Unweighted) : Type 0 where
  pub named : (cell_at u.cell).name ≡ u.name
  pub pins : pin_count u.cell ≡ u.n
  pub counted : (pattern : ℕ) → pattern < 2 ^ u.n → set_bit u.cell pattern ≡ at_least u.m pattern

abbrev pub AllByCount : List Unweighted → Type 0
AllByCount [] = Unit {0}
AllByCount (u ∷ us) = SetByCount u × AllByCount us
