-- How far the opening of the Ki has come.
use Rattle.std.specs.Prelude.{ℕ, ◌<◌, ◌≡◌, List, length, get_or}
use Rattle.wiring_spec.specs.Tables.{register_slot}
use Rattle.check_open.specs.declared.Behind.{Behind}
use Rattle.check_open.specs.Opening.{nothing_behind, Told}

-- what stands behind the Ki of each register before k is known
pub record OpenedTo (nets : List ℕ) (first : ℕ) (regs : List ℕ) (before found : List Behind) (k : ℕ) : Type 0 where
  pub long : length found ≡ length before
  pub told : (i : ℕ) → i < k → Told nets first (register_slot regs i 3) (get_or found i nothing_behind)
