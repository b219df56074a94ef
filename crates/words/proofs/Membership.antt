-- Which words a stage in its flat form has: all that its inputs have, or those of its care list.
-- Assumes nothing.
use Prim.Native.Nat.{ℕ, ◌^◌, ◌≤◌, ◌<◌}
use native.Mathlib.Omega.{arith}
use lib.Pow.{pow_mono}
use mathlib.Core.Path.{◌≡◌, refl, sym, ap, ◌∙◌}
use mathlib.Core.Bool.{Bool, true, false}
use mathlib.Core.Logic.{◌⊎◌, inl, inr}
use mathlib.Core.List.{List, [], ◌∷◌}
use lib.ListN.{length, get_or}
use lib.Dec.{ltb}
use Rattle.runs.proofs.Test.{true?, not-true, ltb-true, ltb-false}
use Rattle.netlist.specs.declared.Counts.{Counts}
use Rattle.netlist.specs.Reading.{stage_limits}
use Rattle.verdict.specs.Graph.{tabulate}
use Rattle.verdict.specs.Words.{numbers, cared_for, words, is_in}
use Rattle.verdict.proofs.Words.{index_in, in_index}
use Rattle.verdict.proofs.Names.{is_in_in, in_is_in}
use Rattle.circuit.specs.Stage.{care_in, stage_care, stage_in}
use Rattle.circuit.proofs.Tabulate.{length_tabulate, get_d_tabulate}

-- there is a word, and within the limits all words can be counted
pub few_words : (i : ℕ) → i ≤ stage_limits.inputs → (1 ≤ 2 ^ i) × (2 ^ i ≤ 2 ^ stage_limits.inputs)
few_words i h = (pow_mono {i = 0} {j = i} (omega arith), pow_mono {i = i} {j = stage_limits.inputs} h)

-- ---- without a care list

below_all : (m w : ℕ) → ltb w m ≡ is_in w (numbers 0 m)
below_all m w = go (true? (ltb w m))
  where
    go : (ltb w m ≡ true) ⊎ (ltb w m ≡ false) → ltb w m ≡ is_in w (numbers 0 m)
    go (inl e) = e ∙ sym (in_is_in w (numbers 0 m) (index_in m w (ltb-true w m e)))
    go (inr e) = e ∙ sym (not-true (is_in w (numbers 0 m)) (λ i. omega (arith, ltb-false w m e, in_index m w (is_in_in w (numbers 0 m) i))))

pub of_all_holds : (c : Counts) (code : List ℕ) (w : ℕ) → c.care ≡ 0 → ltb w (2 ^ c.inputs) ≡ is_in w (words (stage_in c code))
unfolding words cared_for stage_care tabulate
of_all_holds c code w e = rw e (below_all (2 ^ c.inputs) w)

-- ---- with one

listed : (n : ℕ) (ws : List ℕ) → (length ws ≡ 0 → ⊥) → cared_for n ws ≡ ws
unfolding cared_for
listed n [] d = absurd (d refl)
listed n (w ∷ ws) d = refl

module _ (c : Counts) (code : List ℕ) where
  pub care_long : length (stage_care c code) ≡ c.care
  unfolding stage_care
  care_long = length_tabulate (care_in c code) c.care

  pub care_is : (k : ℕ) → k < c.care → (x : ℕ) → x ≡ care_in c code k → x ≡ get_or (stage_care c code) k 0
  unfolding stage_care
  care_is k h x is = is ∙ sym (get_d_tabulate (care_in c code) c.care k 0 h)

  module _ (w : ℕ) where
    -- what is in the care list of a stage is a word of it
    pub of_care : (c.care ≡ 0 → ⊥) → (b : Bool) → b ≡ is_in w (stage_care c code) → b ≡ is_in w (words (stage_in c code))
    unfolding words
    of_care some b e = e ∙ sym (ap (is_in w) (listed c.inputs (stage_care c code) (λ z. some (sym care_long ∙ z))))
