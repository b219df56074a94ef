-- Which gate each net feeds first, noted gate by gate from the last to the first. Assumes nothing.
use Prim.Native.Nat.{ℕ, zero, suc, ◌+◌, ◌*◌, ◌≤◌, ◌<◌}
use native.Mathlib.Omega.{arith}
use native.Mathlib.Decide.{dec_lt, ℕ_discrete}
use native.Mathlib.Numerals.{add-one}
use mathlib.Core.Path.{◌≡◌, refl, sym, ap, ◌∙◌}
use mathlib.Core.List.{List}
use lib.ListN.{length, get_or, set, length-set}
use lib.Seq.{set_out, get_or-set_same, get_or-set_other}
use Rattle.netlist.specs.declared.Counts.{Counts}
use Rattle.circuit.specs.Stage.{pin_in, StageLoaded}
use Rattle.circuit_steps.specs.Fed.{FedFrom}

-- an entry stays within a bound that the new number has too
set-most : (l : List ℕ) (p x q most : ℕ) → x ≤ most → get_or l q 0 ≤ most → get_or (set l p x) q 0 ≤ most
set-most l p x q most h e = go (ℕ_discrete q p) (dec_lt p (length l))
  where
    go : Dec (q ≡ p) → Dec (p < length l) → get_or (set l p x) q 0 ≤ most
    go (no d) b = rw (get_or-set_other l p q x 0 d) e
    go (yes d) (yes b) = rw (d, get_or-set_same l p x 0 b) h
    go (yes d) (no b) = rw (set_out l p x (omega arith)) e

set_there : (l : List ℕ) (p x most : ℕ) → p < length l → x ≤ most → get_or (set l p x) p 0 ≤ most
set_there l p x most b h = rw (get_or-set_same l p x 0 b) h

-- the net of gate k is noted for the nets at its first m pins
abbrev pub noted : List ℕ → ℕ → ℕ → List ℕ → ℕ → List ℕ
noted code k net fed zero = fed
noted code k net fed (suc m) = set (noted code k net fed m) (pin_in code k m) net

pub noted_long : (code : List ℕ) (k net : ℕ) (fed : List ℕ) (m : ℕ) → length (noted code k net fed m) ≡ length fed
noted_long code k net fed zero = refl
noted_long code k net fed (suc m) = length-set (noted code k net fed m) (pin_in code k m) net ∙ noted_long code k net fed m

pub noted_more : (code : List ℕ) (k net : ℕ) (fed : List ℕ) (m : ℕ) (x y : List ℕ) → y ≡ set x (pin_in code k m) net → x ≡ noted code k net fed m → y ≡ noted code k net fed (m + 1)
noted_more code k net fed m x y p q = p ∙ ap (λ (l : List ℕ). set l (pin_in code k m) net) q ∙ ap (noted code k net fed) (sym (add-one m))

module _ (c : Counts) (code : List ℕ) (loaded : StageLoaded c code) (k : ℕ) (h : k < c.gates) (fed : List ℕ) (f : FedFrom c code (k + 1) fed) (net : ℕ) (is : net ≡ 2 * c.inputs + k) where
  abbrev after : ℕ → List ℕ
  after = noted code k net fed

  pub pin_there : (m : ℕ) → m < 4 → pin_in code k m < length (after m)
  pin_there m l = omega (arith, noted_long code k net fed m, f.long, (loaded.gate k h).pin m l)

  -- the gates behind, and the pins that are noted
  later : (m g i : ℕ) → k + 1 ≤ g → g < c.gates → i < 4 → get_or (after m) (pin_in code g i) 0 ≤ 2 * c.inputs + g
  later zero g i a b l = f.least g i a b l
  later (suc m) g i a b l = set-most (after m) (pin_in code k m) net (pin_in code g i) (2 * c.inputs + g) (omega (arith, is)) (later m g i a b l)

  own : (m i : ℕ) → i < m → m ≤ 4 → get_or (after m) (pin_in code k i) 0 ≤ 2 * c.inputs + k
  own zero i a b = absurd (omega arith)
  own (suc m) i a b = go (ℕ_discrete i m) (λ d. own m i d (omega arith))
    where
      go : Dec (i ≡ m) → (i < m → get_or (after m) (pin_in code k i) 0 ≤ 2 * c.inputs + k) → get_or (after (suc m)) (pin_in code k i) 0 ≤ 2 * c.inputs + k
      go (yes e) before = rw e (set_there (after m) (pin_in code k m) net (2 * c.inputs + k) (pin_there m (omega arith)) (omega (arith, is)))
      go (no d) before = set-most (after m) (pin_in code k m) net (pin_in code k i) (2 * c.inputs + k) (omega (arith, is)) (before (omega arith))

  pub all_noted : FedFrom c code k (after 4)
  all_noted = record { long = omega (arith, noted_long code k net fed 4, f.long); least = λ g i a b l. go g i a b l (ℕ_discrete g k) }
    where
      go : (g i : ℕ) → k ≤ g → g < c.gates → i < 4 → Dec (g ≡ k) → get_or (after 4) (pin_in code g i) 0 ≤ 2 * c.inputs + g
      go g i a b l (yes e) = rw e (own 4 i l (omega arith))
      go g i a b l (no d) = later 4 g i (omega arith) b l
