-- The search for 5 goes on by one operand at a time.
-- Assumes nothing.
use Rattle.std.specs.Prelude.{Some, None}
use Prim.Native.Nat.{ℕ, suc, ◌+◌, ◌*◌, ◌-◌, ◌<◌}
use native.Mathlib.Omega.{arith}
use mathlib.Core.Path.{◌≡◌, ap, ◌∙◌}
use mathlib.Core.Bool.{Bool, true, false, cond}
use mathlib.Core.List.{List}
use Rattle.netlist.specs.Bytes.{operand}
use Rattle.netlist.specs.Commands.{misfit, misfit_from}

-- ---- the next of m operands that stand two bytes apart

pub one_less : (m i : ℕ) → i < m → m - i ≡ suc (m - (i + 1))
one_less m i more = omega arith

pub next_place : (at i : ℕ) → at + 2 * i + 2 ≡ at + 2 * (i + 1)
next_place at i = omega arith

-- ---- operand i of m operands from a place on, with the value v and the answer b of its test

module _ (s : List ℕ) (at m i : ℕ) (more : i < m) (v : ℕ) (read : v ≡ operand s (at + 2 * i)) (b : Bool) (k : ℕ) (test : b ≡ misfit k i v) where
  misfit-step : misfit_from k i s (at + 2 * i) (m - i) ≡ cond b (Some (at + 2 * i)) (misfit_from k (i + 1) s (at + 2 * (i + 1)) (m - (i + 1)))
  unfolding misfit_from
  misfit-step = ap (λ (x : ℕ). misfit_from k i s (at + 2 * i) x) (one_less m i more) ∙ rw (← read, ← test, next_place at i)

  pub misfit_found : b ≡ true → misfit_from k i s (at + 2 * i) (m - i) ≡ Some (at + 2 * i)
  misfit_found e = misfit-step ∙ rw e

  pub misfit_passed : b ≡ false → misfit_from k i s (at + 2 * i) (m - i) ≡ misfit_from k (i + 1) s (at + 2 * (i + 1)) (m - (i + 1))
  misfit_passed e = misfit-step ∙ rw e

-- none are left
pub misfit_none : (k i : ℕ) (s : List ℕ) (at m : ℕ) → m ≡ 0 → misfit_from k i s at m ≡ None
unfolding misfit_from
misfit_none k i s at m e = rw e
