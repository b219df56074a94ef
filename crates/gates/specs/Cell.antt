-- The 27 fundamental NCL gates: name, pins and set expression of each, in the paper's order; and what a kind byte stands for.
use Rattle.std.specs.Prelude.{ℕ, ◌+◌, ◌-◌, ◌/◌, ◌%◌, ◌^◌, Bool, true, false, cond, ◌&&◌, ◌||◌, List, [], ◌∷◌, eqb, leb, get_or}
use Prim.Native.String.{String}
use Rattle.std.specs.Int.Count.{ones}
use Rattle.gates.specs.Expression.{Expression, A, B, C, D, ◌·◌, ◌∔◌, holds}
use Rattle.gates.specs.declared.Kind.{Kind}
use Rattle.gates.specs.declared.Kind.TheVariants.{Hold, Relaxed, Unknown}

pub record Cell : Type 0 where
  pub name : String
  pub pins : ℕ
  pub set : Expression

abbrev pub cell : String → ℕ → Expression → Cell
cell name pins set = record { name = name; pins = pins; set = set }

-- cell 1 first
unfoldable pub cells : List Cell
cells =
    cell "TH12" 2 (A ∔ B) ∷
    cell "TH22" 2 (A · B) ∷
    cell "TH13" 3 (A ∔ B ∔ C) ∷
    cell "TH23" 3 (A · B ∔ A · C ∔ B · C) ∷
    cell "TH33" 3 (A · B · C) ∷
    cell "TH23w2" 3 (A ∔ B · C) ∷
    cell "TH33w2" 3 (A · B ∔ A · C) ∷
    cell "TH14" 4 (A ∔ B ∔ C ∔ D) ∷
    cell "TH24" 4 (A · B ∔ A · C ∔ A · D ∔ B · C ∔ B · D ∔ C · D) ∷
    cell "TH34" 4 (A · B · C ∔ A · B · D ∔ A · C · D ∔ B · C · D) ∷
    cell "TH44" 4 (A · B · C · D) ∷
    cell "TH24w2" 4 (A ∔ B · C ∔ B · D ∔ C · D) ∷
    cell "TH34w2" 4 (A · B ∔ A · C ∔ A · D ∔ B · C · D) ∷
    cell "TH44w2" 4 (A · B · C ∔ A · B · D ∔ A · C · D) ∷
    cell "TH34w3" 4 (A ∔ B · C · D) ∷
    cell "TH44w3" 4 (A · B ∔ A · C ∔ A · D) ∷
    cell "TH24w22" 4 (A ∔ B ∔ C · D) ∷
    cell "TH34w22" 4 (A · B ∔ A · C ∔ A · D ∔ B · C ∔ B · D) ∷
    cell "TH44w22" 4 (A · B ∔ A · C · D ∔ B · C · D) ∷
    cell "TH54w22" 4 (A · B · C ∔ A · B · D) ∷
    cell "TH34w32" 4 (A ∔ B · C ∔ B · D) ∷
    cell "TH54w32" 4 (A · B ∔ A · C · D) ∷
    cell "TH44w322" 4 (A · B ∔ A · C ∔ A · D ∔ B · C) ∷
    cell "TH54w322" 4 (A · B ∔ A · C ∔ B · C · D) ∷
    cell "THxor0" 4 (A · B ∔ C · D) ∷
    cell "THand0" 4 (A · B ∔ B · C ∔ A · D) ∷
    cell "TH24comp" 4 (A · C ∔ B · C ∔ A · D ∔ B · D) ∷
    []

-- a number outside 1 to 27: no name, and no pins, so that its expression never holds
abbrev no_cell : Cell
no_cell = cell "" 0 A

-- the cell of a number; the first is 1
unfoldable pub cell_at : ℕ → Cell
cell_at c = get_or (no_cell ∷ cells) c no_cell

unfoldable pub pin_count : ℕ → ℕ
pin_count c = (cell_at c).pins

unfoldable pub set_expression : ℕ → Expression
set_expression c = (cell_at c).set

-- ---- patterns of pins

-- pin i of a pattern is its bit i, so that A is the lowest
abbrev pub pin_of : ℕ → ℕ → Bool
pin_of pattern i = eqb (pattern / 2 ^ i % 2) 1

abbrev pub bit : Bool → ℕ
bit true = 1
bit false = 0

-- 1 where the cell's set expression holds at a pattern of its pins, else 0
unfoldable pub set_bit : ℕ → ℕ → ℕ
set_bit c pattern = bit (holds (set_expression c) (pin_of pattern))

-- 1 where at least m pins of a pattern are high, else 0
unfoldable pub at_least : ℕ → ℕ → ℕ
at_least m pattern = bit (leb m (ones pattern))

-- the m of an unweighted THmn, by its cell; 0 where the cell is weighted or no threshold gate
unfoldable pub threshold : ℕ → ℕ
threshold c = get_or (0 ∷ 1 ∷ 2 ∷ 1 ∷ 2 ∷ 3 ∷ 0 ∷ 0 ∷ 1 ∷ 2 ∷ 3 ∷ 4 ∷ []) c 0

-- ---- retired cells

-- the cells that are no longer cast, with hold or relaxed: 24, TH54w322
unfoldable pub retired_cells : List ℕ
retired_cells = 24 ∷ []

unfoldable pub among : ℕ → List ℕ → Bool
among x [] = false
among x (y ∷ ys) = eqb x y || among x ys

unfoldable pub is_retired : ℕ → Bool
is_retired c = among c retired_cells

-- ---- kind bytes

-- kinds 1 to 27 are the cells of these numbers, with hold; kinds 129 to 155 are the same cells, relaxed
unfoldable pub kind_of : ℕ → Kind
kind_of k =
    cond (leb 1 k && leb k 27) (Hold k (pin_count k))
    (cond (leb 129 k && leb k 155) (Relaxed (k - 128) (pin_count (k - 128))) Unknown)

-- the kind of a cell, with hold or relaxed
abbrev pub kind_byte : ℕ → Bool → ℕ
kind_byte cell true = cell
kind_byte cell false = cell + 128

abbrev pub as_kind : Bool → ℕ → ℕ → Kind
as_kind true cell pins = Hold cell pins
as_kind false cell pins = Relaxed cell pins
