-- The least gate that was never noted is the least that never rises.
-- Assumes nothing.
use Rattle.std.specs.Prelude.{Some, None}
use Prim.Native.Nat.{ℕ, zero, suc, ◌+◌, ◌≤◌, ◌<◌}
use native.Mathlib.Omega.{arith}
use mathlib.Core.Path.{◌≡◌, ap, subst, ◌∙◌}
use mathlib.Core.Bool.{Bool, true, false}
use mathlib.Core.List.{List}
use lib.ListN.{length, get_or}
use Rattle.runs.proofs.Test.{clash, not-true}
use Rattle.netlist.specs.Content.{Stage}
use Rattle.verdict.specs.Search.{least}
use Rattle.verdict.specs.Checks.{high_at, never_rises}
use Rattle.verdict.proofs.Rising.{NeverRises, never_rises_holds, rises_never}
use Rattle.verdict.proofs.Least.{SoughtTo, sought_on, sought_here, sought_none}
use Rattle.lane_cells.specs.Lane.{lane, row_in}
use Rattle.lane_cells.proofs.Lane.{lane_zero}
use Rattle.lane_rise.specs.Rising.{Rises, Noted}

-- a gate that rises does not pass the test
pub rises_not : (s : Stage) (g : ℕ) → Rises s g → never_rises s g ≡ false
rises_not s g r = not-true (never_rises s g) (λ e. clash r.high (never_rises_holds s g e r.word r.is_word))

-- ---- the least of them

-- none before k passes a test
sought_all : (f : ℕ → Bool) (m k : ℕ) → k ≤ m → ((g : ℕ) → g < k → f g ≡ false) → SoughtTo f m k
sought_all f m zero h l = ap (least f 0) (omega arith)
sought_all f m (suc k) h l =
    let e : k + 1 ≡ suc k = omega arith in
    subst (SoughtTo f m) e (sought_on f m k (omega arith) (sought_all f m k (omega arith) (λ g d. l g (omega arith))) (l k (omega arith)))

-- gate g is noted in some word of a block
abbrev pub NotedAt : List ℕ → ℕ → Type 0
NotedAt rose g = (j : ℕ) × (j < 64) × (row_in j rose g ≡ true)

module _ (s : Stage) (rose : List ℕ) (noted : Noted s rose) (k : ℕ) (before : (g : ℕ) → g < k → NotedAt rose g) where
  sought : k ≤ length s.gates → SoughtTo (never_rises s) (length s.gates) k
  sought h =
      sought_all (never_rises s) (length s.gates) k h
      (λ g d. let n = before g d in rises_not s g (noted.risen g n.0 (omega arith) n.1 n.2))

  pub least_never : k < length s.gates → get_or rose k 0 ≡ 0 → Some k ≡ least (never_rises s) 0 (length s.gates)
  least_never h e = sought_here (never_rises s) (length s.gates) k h (sought (omega arith)) (rises_never s k low)
    where
      low : NeverRises s k
      low w i = not-true (high_at s w k) (λ u. let n = noted.kept k w h i u in clash n.1 (ap (lane n.0) e ∙ lane_zero n.0))

  pub none_never : k ≡ length s.gates → None ≡ least (never_rises s) 0 (length s.gates)
  none_never e = sought_none (never_rises s) (length s.gates) k (omega arith) (sought (omega arith))
