-- Opening one Ki after the other.
-- Assumes nothing.
use Prim.Native.Nat.{ℕ, ◌+◌, ◌<◌}
use native.Mathlib.Omega.{arith}
use native.Mathlib.Decide.{ℕ_discrete}
use mathlib.Core.Path.{◌≡◌, refl, ◌∙◌}
use mathlib.Core.List.{List}
use lib.ListN.{length, get_or, set, length-set}
use lib.Seq.{get_or-set_same, get_or-set_other}
use Rattle.wiring_spec.specs.Tables.{register_slot}
use Rattle.check_open.specs.declared.Behind.{Behind}
use Rattle.check_open.specs.Opening.{nothing_behind, Told}
use Rattle.check_wiring.specs.Opened.{OpenedTo}

pub opened_none : (nets : List ℕ) (first : ℕ) (regs : List ℕ) (found : List Behind) → OpenedTo nets first regs found found 0
opened_none nets first regs found = record { long = refl; told = λ i h. absurd (omega arith) }

pub opened_more : (nets : List ℕ) (first : ℕ) (regs : List ℕ) (before found : List Behind) (k : ℕ) (b : Behind) → k < length before → Told nets first (register_slot regs k 3) b
    → OpenedTo nets first regs before found k → OpenedTo nets first regs before (set found k b) (k + 1)
opened_more nets first regs before found k b h told o = record {
  long = length-set found k b ∙ o.long;
  told = λ i l. go i l (ℕ_discrete i k);
}
  where
    go : (i : ℕ) → i < k + 1 → Dec (i ≡ k) → Told nets first (register_slot regs i 3) (get_or (set found k b) i nothing_behind)
    go i l (yes e) = rw (e, get_or-set_same found k b nothing_behind (omega (arith, o.long))) told
    go i l (no n) = rw (get_or-set_other found k i b nothing_behind n) (o.told i (omega arith))
