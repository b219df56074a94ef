-- The retired kinds.
-- Assumes nothing.
use Prim.Native.Nat.{ℕ, ◌≤◌}
use native.Mathlib.Omega.{arith}
use mathlib.Core.Path.{◌≡◌, refl, ap}
use mathlib.Core.Bool.{Bool, true, false, ◌||◌}
use mathlib.Core.Logic.{◌⊎◌, inl, inr, ◌↔◌, ⊎_elim}
use lib.Dec.{eqb}
use Rattle.gates.specs.Cell.{pin_count, retired_cells, among, is_retired, kind_byte}
use Rattle.gates.proofs.Ranges.{KindCases, of_cell, no_kind, kind_cases, kind_at}
use Rattle.runs.proofs.Test.{clash, or_cases, eqb_eq}
use Rattle.netlist.specs.Coded.{Coded, cell_of}
use Rattle.check_spec.specs.Rows.{cell_in}

-- "Kind 24 and its relaxed form 152 are no longer cast", and no other
pub retired_kinds : (g : Coded) → (is_retired (cell_in g) ≡ true) ↔ ((g.code ≡ 24) ⊎ (g.code ≡ 152))
unfolding retired_cells is_retired among
retired_kinds g = (λ h. from (kind_cases g.code) (only-24 h), to)
  where
    cell-is : (hold : Bool) (k : ℕ) → 1 ≤ k → k ≤ 27 → g.code ≡ kind_byte k hold → cell_in g ≡ k
    cell-is true k lo hi e = ap cell_of (kind_at true g.code k (pin_count k) e lo hi refl)
    cell-is false k lo hi e = ap cell_of (kind_at false g.code k (pin_count k) e lo hi refl)

    only-24 : (eqb (cell_in g) 24 || false) ≡ true → cell_in g ≡ 24
    only-24 h = ⊎_elim (λ e. eqb_eq (cell_in g) 24 e) (λ e. absurd (clash e refl)) (or_cases (eqb (cell_in g) 24) false h)

    from : KindCases g.code → cell_in g ≡ 24 → (g.code ≡ 24) ⊎ (g.code ≡ 152)
    from (of_cell true k lo hi e) h = inl (omega (arith, cell-is true k lo hi e, h))
    from (of_cell false k lo hi e) h = inr (omega (arith, cell-is false k lo hi e, h))
    from (no_kind e) h = absurd (omega (arith, ap cell_of e, h))

    to : (g.code ≡ 24) ⊎ (g.code ≡ 152) → (eqb (cell_in g) 24 || false) ≡ true
    to (inl e) = rw (cell-is true 24 (omega arith) (omega arith) e)
    to (inr e) = rw (cell-is false 24 (omega arith) (omega arith) e)
