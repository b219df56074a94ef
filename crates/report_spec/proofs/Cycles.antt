-- A cycle ends in the row from which the next one starts.
-- Assumes nothing.
use mathlib.Core.Path.{◌≡◌, refl, sym, subst, ◌∙◌, fun_ext}
use mathlib.Core.Bool.{Bool, true, false, cond}
use mathlib.Core.Logic.{◌⊎◌, inl, inr, ◌≢◌}
use mathlib.Core.List.{List, [], ◌∷◌}
use Prim.Native.Nat.{ℕ}
use Rattle.runs.specs.Row.{Row, Rule, low, toggle, after, Legal}
use Rattle.runs.specs.Net.{Net, rise_step, fall_step, RiseList, FallList}
use Rattle.runs.specs.Pair.{AllLow}
use Rattle.runs.proofs.Test.{clash, same?}
use Rattle.runs.proofs.Row.{toggle_other}
use Rattle.runs.proofs.Net.{Place, rail, gate, none, place, by_net_none}
use native.Mathlib.Omega.{arith}

-- a net that no row lets switch stays as it was
still : (can : Rule) (k : ℕ) → ((r : Row) → can r k ≡ false) → (r : Row) (l : List ℕ) → Legal can r l → after r l k ≡ r k
still can k never r [] legal = refl
still can k never r (i ∷ l) legal = still can k never (toggle r i) l legal.1 ∙ go (same? k i)
  where
    go : (k ≡ i) ⊎ (k ≢ i) → toggle r i k ≡ r k
    go (inl e) = absurd (clash (subst (λ (n : ℕ). can r n ≡ true) (sym e) legal.0) (never r))
    go (inr d) = toggle_other r i k d

same-either : (b a c : Bool) → a ≡ false → c ≡ false → cond b a c ≡ false
same-either true a c e f = e
same-either false a c e f = f

-- after a rise and a fall that leave every input and gate low, every net is low as at the start: a net that does not exist never switches
pub low_again : (N : Net) (c : Row) (l m : List ℕ) → RiseList N c l → FallList N (after low l) m → AllLow N (after (after low l) m) → after (after low l) m ≡ low
low_again N c l m rise fall all = fun_ext (λ k. go k (place N k))
  where
    go : (k : ℕ) → Place N k → after (after low l) m k ≡ false
    go k (rail h) = all k (omega arith)
    go k (gate h) = all k h.1
    go k (none h) =
        still (fall_step N) k (λ r. same-either (r k) _ _ (by_net_none N k _ _ h) (by_net_none N k _ _ h)) (after low l) m fall
        ∙ still (rise_step N c) k (λ r. same-either (r k) _ _ (by_net_none N k _ _ h) (by_net_none N k _ _ h)) low l rise
