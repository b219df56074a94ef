-- `gates::sets` meets its contract: for an unweighted cell the count of high pins and the set expression agree, for the others the table has it.
-- Assumes nothing.
use mathlib.Core.Path.{◌≡◌, refl, ◌∙◌, ap}
use mathlib.Core.Bool.{false}
use mathlib.Core.Logic.{⊎_elim}
use native.Mathlib.Omega.{arith}
use Prim.Native.Nat.{ℕ, ◌≤◌, ◌<◌, ◌^◌}
use lib.Dec.{lit<, eqb}
use Rattle.gates.specs.Cell.{set_bit, at_least, threshold, pin_count}
use Rattle.gates.proofs.Patterns.{count_decides}
use Rattle.gates.proofs.Ranges.{pattern_in_holds}
use Rattle.gates.proofs.sets.Goals as goal

-- a cell c, known to be c₀, whose threshold is m
counted : (c₀ m : ℕ) → threshold c₀ ≡ m → eqb m 0 ≡ false → c₀ < 12 → (c p r : ℕ) → c ≡ c₀ → c ≤ 27 → p < 2 ^ pin_count c → r ≡ at_least m p → r ≡ set_bit c p
counted c₀ m is some hc c p r e hi fits h = h ∙ count_decides c p m (ap threshold e ∙ is) some (omega arith) (pattern_in_holds c p hi fits) fits

pub entry-requires : goal.entry-requires
entry-requires c = (c.requires.0, omega arith, omega arith, pattern_in_holds c.args.cell _ (omega arith) c.requires.3)

pub returns-in-1 : goal.returns-in-1
unfolding threshold
returns-in-1 c =
    ⊎_elim (λ e. counted 1 1 refl refl (lit< tt) _ _ _ e c.requires.2 c.requires.3 c.at_least.ensures)
    (⊎_elim (λ e. counted 3 1 refl refl (lit< tt) _ _ _ e c.requires.2 c.requires.3 c.at_least.ensures)
    (λ e. counted 8 1 refl refl (lit< tt) _ _ _ e c.requires.2 c.requires.3 c.at_least.ensures))
    c.in-1.is

pub returns-in-2 : goal.returns-in-2
unfolding threshold
returns-in-2 c =
    ⊎_elim (λ e. counted 2 2 refl refl (lit< tt) _ _ _ e c.requires.2 c.requires.3 c.at_least-in-2.ensures)
    (⊎_elim (λ e. counted 4 2 refl refl (lit< tt) _ _ _ e c.requires.2 c.requires.3 c.at_least-in-2.ensures)
    (λ e. counted 9 2 refl refl (lit< tt) _ _ _ e c.requires.2 c.requires.3 c.at_least-in-2.ensures))
    c.in-2.is

pub returns-in-5 : goal.returns-in-5
unfolding threshold
returns-in-5 c =
    ⊎_elim (λ e. counted 5 3 refl refl (lit< tt) _ _ _ e c.requires.2 c.requires.3 c.at_least-in-5.ensures)
    (λ e. counted 10 3 refl refl (lit< tt) _ _ _ e c.requires.2 c.requires.3 c.at_least-in-5.ensures)
    c.in-5.is

pub returns-in-11 : goal.returns-in-11
unfolding threshold
returns-in-11 c = counted 11 4 refl refl (lit< tt) _ _ _ c.in-11.is c.requires.2 c.requires.3 c.at_least-in-11.ensures
