-- How many pins the cells of a range have, what a kind byte stands for, and that the count of high pins decides an unweighted cell.
-- Assumes nothing.
use Prim.Native.Nat.{ℕ, ◌+◌, ◌-◌, ◌^◌, ◌≤◌, ◌<◌}
use native.Mathlib.Omega.{arith}
use mathlib.Core.Path.{◌≡◌, refl, sym, ◌∙◌, ap, subst}
use native.Mathlib.Decide.{dec_lt}
use mathlib.Core.Bool.{Bool, true, false}
use lib.Dec.{T, lit<, eqb, eqb→eq, leb, leb→le}
use borrow.Author.Tests.{le-leb, lt-leb}
use Rattle.gates.specs.Cell.{cells, cell_at, pin_count, threshold, kind_of, kind_byte, as_kind}
use Rattle.gates.specs.Unweighted.{Unweighted, unweighted_cells, SetByCount, AllByCount}
use Rattle.gates.specs.declared.Kind.TheVariants.{Hold, Relaxed, Unknown}
use Rattle.gates.proofs.Every.{every, every_at}
use Rattle.gates.proofs.Patterns.{count_decides}

-- every cell from `low` on, `n` of them, has k pins
abbrev pub RangeHas : ℕ → ℕ → ℕ → Type 0
RangeHas low n k = T (every (λ i. eqb (pin_count (low + i)) k) n)

pub pins_in_range : (low n k : ℕ) → RangeHas low n k → (c : ℕ) → low ≤ c → c < low + n → pin_count c ≡ k
pins_in_range low n k t c h h' =
    let e : low + (c - low) ≡ c = omega arith in
    subst (λ (x : ℕ). pin_count x ≡ k) e (eqb→eq (pin_count (low + (c - low))) k (every_at (λ i. eqb (pin_count (low + i)) k) n t (c - low) (omega arith)))

pub two_pins_holds : RangeHas 1 2 2
unfolding pin_count cell_at cells
two_pins_holds = tt

pub three_pins : RangeHas 3 5 3
unfolding pin_count cell_at cells
three_pins = tt

pub four_pins_holds : RangeHas 8 20 4
unfolding pin_count cell_at cells
four_pins_holds = tt

-- the kind of a cell, with hold or relaxed, is that cell with its pins
pub kind_known : (hold : Bool) (c n : ℕ) → 1 ≤ c → c ≤ 27 → pin_count c ≡ n → kind_of (kind_byte c hold) ≡ as_kind hold c n
unfolding kind_of
kind_known true c n lo hi e = rw (le-leb 1 c lo, le-leb c 27 hi) (ap (Hold c) e)
kind_known false c n lo hi e =
    let back : c + 128 - 128 ≡ c = omega arith in
    rw (le-leb 1 (c + 128) (omega arith), lt-leb (c + 128) 27 (omega arith), le-leb 129 (c + 128) (omega arith), le-leb (c + 128) 155 (omega arith), back) (ap (Relaxed c) e)

-- what a kind byte stands for
pub data KindCases (k : ℕ) : Type 0 where
  of_cell : (hold : Bool) (c : ℕ) → 1 ≤ c → c ≤ 27 → k ≡ kind_byte c hold → KindCases k
  no_kind : kind_of k ≡ Unknown → KindCases k

pub kind_cases : (k : ℕ) → KindCases k
unfolding kind_of
kind_cases k = go (dec_lt k 1) (dec_lt 27 k) (dec_lt k 129) (dec_lt 155 k)
  where
    go : Dec (k < 1) → Dec (27 < k) → Dec (k < 129) → Dec (155 < k) → KindCases k
    go (yes a) b c d = no_kind (rw (lt-leb 1 k a, lt-leb 129 k (omega arith)))
    go (no a) (no b) c d = of_cell true k (omega arith) (omega arith) refl
    go (no a) (yes b) (yes c) d = no_kind (rw (le-leb 1 k (omega arith), lt-leb k 27 b, lt-leb 129 k c))
    go (no a) (yes b) (no c) (no d) = of_cell false (k - 128) (omega arith) (omega arith) (omega arith)
    go (no a) (yes b) (no c) (yes d) = no_kind (rw (le-leb 1 k (omega arith), lt-leb k 27 b, le-leb 129 k (omega arith), lt-leb k 155 d))

pub kind_at : (hold : Bool) (k c n : ℕ) → k ≡ kind_byte c hold → 1 ≤ c → c ≤ 27 → pin_count c ≡ n → kind_of k ≡ as_kind hold c n
kind_at hold k c n e lo hi f = ap kind_of e ∙ kind_known hold c n lo hi f

pub kind_none : (k : ℕ) → ((c : ℕ) → 1 ≤ c → c ≤ 27 → k ≡ c → ⊥) → ((c : ℕ) → 1 ≤ c → c ≤ 27 → k ≡ c + 128 → ⊥) → kind_of k ≡ Unknown
kind_none k held relaxed = go (kind_cases k)
  where
    go : KindCases k → kind_of k ≡ Unknown
    go (of_cell true c lo hi e) = absurd (held c lo hi e)
    go (of_cell false c lo hi e) = absurd (relaxed c lo hi e)
    go (no_kind e) = e

all_small : T (every (λ c. leb (2 ^ pin_count c) 16) 28)
unfolding pin_count cell_at cells
all_small = tt

-- a pattern of a cell's pins is one of 16
pub pattern_in_holds : (c p : ℕ) → c ≤ 27 → p < 2 ^ pin_count c → p < 16
pattern_in_holds c p h fits = let l : 2 ^ pin_count c ≤ 16 = leb→le (2 ^ pin_count c) 16 (every_at (λ x. leb (2 ^ pin_count x) 16) 28 all_small c (omega arith)) in omega arith

-- "An unweighted THmn is set exactly if at least m of its pins are high."
by_count : (u : Unweighted) → threshold u.cell ≡ u.m → eqb u.m 0 ≡ false → u.cell < 12 → (cell_at u.cell).name ≡ u.name → pin_count u.cell ≡ u.n → SetByCount u
by_count u is some few named pins = record {
  named = named;
  pins = pins;
  counted = λ p fits. sym (count_decides u.cell p u.m is some few (pattern_in_holds u.cell p (omega arith) (rw pins fits)) (rw pins fits));
}

pub unweighted : AllByCount unweighted_cells
unfolding unweighted_cells threshold pin_count cell_at cells
unweighted = (
  by_count _ refl refl (lit< tt) refl refl,
  (
    by_count _ refl refl (lit< tt) refl refl,
    (
      by_count _ refl refl (lit< tt) refl refl,
      (
        by_count _ refl refl (lit< tt) refl refl,
        (
          by_count _ refl refl (lit< tt) refl refl,
          (by_count _ refl refl (lit< tt) refl refl, (by_count _ refl refl (lit< tt) refl refl, (by_count _ refl refl (lit< tt) refl refl, (by_count _ refl refl (lit< tt) refl refl, tt)))),
        ),
      ),
    ),
  ),
)
