-- Which words a stage has, in its flat form.
-- Assumes nothing.
use Prim.Native.Nat.{ℕ, zero, suc, ◌^◌, ◌<◌}
use native.Mathlib.Omega.{arith}
use mathlib.Core.Path.{◌≡◌, refl, sym, subst, ◌∙◌}
use mathlib.Core.Logic.{inl, inr}
use mathlib.Core.List.{List, [], ◌∷◌}
use lib.ListN.{length, get_or}
use Rattle.netlist.specs.declared.Counts.{Counts}
use Rattle.verdict.specs.Graph.{tabulate}
use Rattle.verdict.specs.Loops.{In}
use Rattle.verdict.specs.Words.{cared_for, words, IsWord}
use Rattle.verdict.proofs.Words.{in_index, index_in}
use Rattle.circuit.specs.Stage.{care_in, stage_care, stage_in}
use Rattle.circuit.proofs.Tabulate.{length_tabulate, get_d_tabulate}

-- what stands in a list stands at some place of it, and the other way round
in_place : (x : ℕ) (l : List ℕ) → In x l → (k : ℕ) × (k < length l) × (get_or l k 0 ≡ x)
in_place x [] i = absurd i
in_place x (y ∷ l) (inl e) = (0, omega arith, sym e)
in_place x (y ∷ l) (inr i) = let p = in_place x l i in (suc p.0, omega (arith, p.1), p.2)

place_in : (l : List ℕ) (k : ℕ) → k < length l → In (get_or l k 0) l
place_in [] k h = absurd (omega arith)
place_in (y ∷ l) zero h = inl refl
place_in (y ∷ l) (suc k) h = inr (place_in l k (omega arith))

-- ---- without a care list: all words that the inputs have

module _ (c : Counts) (code : List ℕ) (none : c.care ≡ 0) (w : ℕ) where
  pub all_words : IsWord (stage_in c code) w → w < 2 ^ c.inputs
  unfolding words cared_for stage_care tabulate
  all_words i = in_index (2 ^ c.inputs) w (rw none at i)

  pub word_of_all : w < 2 ^ c.inputs → IsWord (stage_in c code) w
  unfolding words cared_for stage_care tabulate
  word_of_all h = rw none (index_in (2 ^ c.inputs) w h)

-- ---- with one: the care words

module _ (c : Counts) (code : List ℕ) (some : c.care ≡ 0 → ⊥) where
  care_long : length (tabulate (care_in c code) c.care) ≡ c.care
  care_long = length_tabulate (care_in c code) c.care

  of_list : (w : ℕ) (ws : List ℕ) → (length ws ≡ 0 → ⊥) → In w (cared_for c.inputs ws) → In w ws
  unfolding cared_for
  of_list w [] d x = absurd (d refl)
  of_list w (y ∷ ws) d x = x

  in_list : (w : ℕ) (ws : List ℕ) → In w ws → In w (cared_for c.inputs ws)
  unfolding cared_for
  in_list w [] x = absurd x
  in_list w (y ∷ ws) x = x

  pub care_words : (w : ℕ) → IsWord (stage_in c code) w → (k : ℕ) × (k < c.care) × (care_in c code k ≡ w)
  unfolding words stage_care
  care_words w i =
      let p = in_place w (tabulate (care_in c code) c.care) (of_list w (tabulate (care_in c code) c.care) (λ z. some (sym care_long ∙ z)) i) in
      let h : p.0 < c.care = omega (arith, p.1, care_long) in
      (p.0, h, sym (get_d_tabulate (care_in c code) c.care p.0 0 h) ∙ p.2)

  pub word_of_care : (k : ℕ) → k < c.care → IsWord (stage_in c code) (care_in c code k)
  unfolding words stage_care
  word_of_care k h =
      let i = place_in (tabulate (care_in c code) c.care) k (omega (arith, care_long)) in
      in_list (care_in c code k) (tabulate (care_in c code) c.care) (subst (λ (v : ℕ). In v (tabulate (care_in c code) c.care)) (get_d_tabulate (care_in c code) c.care k 0 h) i)
