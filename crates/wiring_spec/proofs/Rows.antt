-- What a net is, by the table of the nets after the gates.
-- Assumes nothing.
use Prim.Native.Nat.{ℕ, ◌+◌, ◌*◌, ◌-◌, ◌≤◌, ◌<◌}
use native.Mathlib.Omega.{arith}
use native.Mathlib.Decide.{dec_lt}
use mathlib.Core.Path.{◌≡◌, sym, subst}
use mathlib.Core.Bool.{true}
use mathlib.Core.List.{List}
use lib.ListN.{length, get_or-eq_default}
use Rattle.wiring_spec.specs.Parts.{Pipeline, Driver, nothing, driver_of}
use Rattle.wiring_spec.specs.Named.{carries_data}
use Rattle.wiring_spec.specs.Tables.{slot, RowOf, PartsLoaded}
use Rattle.wiring_spec.proofs.Nets.{past_nothing, Stands, stands, early_data}

module _ (p : Pipeline) (first count : ℕ) (nets regs : List ℕ) (loaded : PartsLoaded p first count nets regs) (long : length nets ≡ 8 * count) where
  -- what is so of a net before the parts', of one of theirs by its row, and past all
  pub by_row : (P : ℕ → Driver → Type 0) → ((x : ℕ) (d : Driver) → x < first → Stands p d x → carries_data d ≡ true → P x d) → ((x : ℕ) (d : Driver) → first ≤ x → x - first < count → Stands p d x → RowOf p nets (x - first) d → P x d)
      → ((x : ℕ) → first ≤ x → count ≤ x - first → slot nets (x - first) 0 ≡ 0 → P x nothing) → (x : ℕ) → P x (driver_of p x)
  by_row P before row past x = go (dec_lt x first) (dec_lt x (first + count))
    where
      go : Dec (x < first) → Dec (x < first + count) → P x (driver_of p x)
      go (yes l) m = before x (driver_of p x) l (stands p x) (early_data p x (omega (arith, loaded.first-is)))
      go (no l) (yes m) =
          let z : first + (x - first) ≡ x = omega arith in
          row x (driver_of p x) (omega arith) (omega arith) (stands p x) (subst (λ (y : ℕ). RowOf p nets (x - first) (driver_of p y)) z (loaded.row (x - first) (omega arith)))
      go (no l) (no m) = subst (P x) (sym (past_nothing p x (omega (arith, loaded.all_nets_holds)))) (past x (omega arith) (omega arith) (get_or-eq_default nets 0 (omega arith)))
