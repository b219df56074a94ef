-- The test of 32: a gate that passes it is low after every list of every word, in the rise and in the fall, and one that does not rises in some word.
-- Assumes nothing.
use Prim.Native.Nat.{ℕ}
use mathlib.Core.Path.{◌≡◌, ap, ◌∙◌, subst}
use mathlib.Core.Bool.{true, false, not}
use mathlib.Core.List.{List}
use Rattle.runs.specs.Row.{Row, low, after}
use Rattle.runs.specs.Net.{Net, RiseList, RiseEnd, FallList}
use Rattle.runs.proofs.Test.{clash, not-true, not-false, of_not}
use Rattle.runs.proofs.Row.{⊑-low}
use Rattle.runs.proofs.Rise.{rise-⊑-settled, rise_end_settled, settled_reached}
use Rattle.runs.proofs.Fall.{fall-⊑}
use Rattle.verdict.specs.declared.WordOrder.TheVariants.{FirstLowest}
use Rattle.verdict.specs.Graph.{In}
use Rattle.check_spec.specs.Content.{Content, Files, stage_in}
use Rattle.check_spec.specs.Rows.{net_of}
use Rattle.check_spec.specs.Words.{rails_for, spelled, names, words, IsWord}
use Rattle.check_spec.specs.Checks.{rest, never_rises}
use Rattle.check_spec.specs.Demands.{LoopFree, Rises}
use Rattle.check_spec.proofs.Loops.{acyclic, settled_is}
use Rattle.check_spec.proofs.Names.{named_word, word_named}
use Rattle.check_spec.proofs.Pairs.{every_out, every_in, every_not}

-- the words of a stage are those in the list of them
module _ (s : Content) (w : ℕ) where
  pub in_words : In w (words s) → IsWord s w
  unfolding words names spelled
  in_words i = named_word FirstLowest s w i

  pub word_in : IsWord s w → In w (words s)
  unfolding words names spelled
  word_in h = let n = word_named FirstLowest s w h in subst (λ (x : ℕ). In x (words s)) n.2 n.1

-- the test and the rests of the words
module _ (s : Content) (net : ℕ) where
  pub never_low : never_rises s net ≡ true → (w : ℕ) → IsWord s w → rest s w net ≡ false
  unfolding never_rises
  never_low e w h = of_not (rest s w net) (every_out (λ x. not (rest s x net)) (words s) e w (word_in s w h))

  pub low_never : ((w : ℕ) → IsWord s w → rest s w net ≡ false) → never_rises s net ≡ true
  unfolding never_rises
  low_never f = every_in (λ x. not (rest s x net)) (words s) (λ w i. ap not (f w (in_words s w i)))

  pub not-never : never_rises s net ≡ false → (w : ℕ) × IsWord s w × (rest s w net ≡ true)
  unfolding never_rises
  not-never e =
      let r = every_not (λ x. not (rest s x net)) (words s) e in
      (r.0, in_words s r.0 r.1, not-false (rest s r.0 net) (λ q. clash (ap not q) r.2))

-- a gate that is low at the rest of a word is low after every list of it, and of the fall from its ends
module _ (s : Content) (free : LoopFree (net_of s)) (w : ℕ) where
  abbrev N : Net
  N = net_of s

  abbrev c : Row
  c = rails_for w

  pub below_rest : (l : List ℕ) → RiseList N c l → (net : ℕ) → after low l net ≡ true → rest s w net ≡ true
  below_rest l p = rise-⊑-settled (acyclic s free) c (rest s w) (settled_is s free c).0 l p

  pub low_rising : (net : ℕ) → rest s w net ≡ false → (l : List ℕ) → RiseList N c l → after low l net ≡ false
  low_rising net e l p = ⊑-low (after low l) (rest s w) (below_rest l p) net e

  pub low_falling : (net : ℕ) → rest s w net ≡ false → (l : List ℕ) → RiseList N c l → RiseEnd N c l
      → (m : List ℕ) → FallList N (after low l) m → after (after low l) m net ≡ false
  low_falling net e l p end m q =
      ⊑-low (after (after low l) m) (after low l) (fall-⊑ (acyclic s free) c (after low l) (rise_end_settled (acyclic s free) c l p end) m q) net (low_rising net e l p)

-- the test and the runs
module _ (f : Files) (free : LoopFree (net_of (stage_in f))) (net : ℕ) where
  pub rises : never_rises (stage_in f) net ≡ false → Rises f net
  rises e =
      let n = not-never (stage_in f) net e in
      let r = settled_reached (acyclic (stage_in f) free) (rails_for n.0) (rest (stage_in f) n.0) (settled_is (stage_in f) free (rails_for n.0)).0 in
      record { in_word_holds = n.0; word = n.1; list = r.list; legal = r.legal; high = ap (λ (R : Row). R net) r.arrives ∙ n.2 }

  pub rises_not : Rises f net → never_rises (stage_in f) net ≡ false
  rises_not r =
      not-true (never_rises (stage_in f) net) (λ e.
      clash (below_rest (stage_in f) free r.in_word_holds r.list r.legal net r.high) (never_low (stage_in f) net e r.in_word_holds r.word))
