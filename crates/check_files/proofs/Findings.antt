-- What a check of places that found nothing says of them, and how a list of checks goes on.
-- Assumes nothing.
use Rattle.std.specs.Prelude.{Option, Some, None, Ok, Err}
use Prim.Native.Nat.{ℕ, ◌≤◌, ◌<◌}
use native.Mathlib.Omega.{arith}
use mathlib.Core.Path.{◌≡◌, refl, sym, ap, ◌∙◌}
use mathlib.Core.Bool.{Bool, true, false, cond}
use mathlib.Core.Logic.{inl, inr}
use mathlib.Core.List.{List, [], ◌∷◌, ◌++◌}
use Rattle.runs.proofs.Test.{clash}
use Rattle.verdict.specs.declared.Verdict.{Verdict}
use Rattle.verdict.specs.FourNumbers.{Finding}
use Rattle.verdict.specs.Graph.{In}
use Rattle.verdict.specs.Words.{numbers}
use Rattle.verdict.specs.Search.{least}
use Rattle.verdict.specs.Checks.{Check, check, first, at_fault, sweep, finding, or_later, first_fault}
use Rattle.verdict.proofs.Least.{least_says}
use Rattle.verdict.proofs.Words.{in_index}

pub not_passed : {v : Verdict} {A : Type 0} → ◌≡◌ {A = Finding} (Err v) (Ok tt) → A
not_passed e = absurd (let z : ◌≡◌ {A = ℕ} 0 1 = cc in omega arith)

-- ---- a list of checks

-- the first that finds a fault decides, and so does one list before another
pub then_later : (cs ds : List Check) → first_fault (cs ++ ds) ≡ or_later (first_fault cs) (first_fault ds)
unfolding first_fault or_later
then_later [] ds = refl
then_later (c ∷ cs) ds = ap (or_later (finding c)) (then_later cs ds) ∙ go (finding c)
  where
    go : (f : Finding) → or_later f (or_later (first_fault cs) (first_fault ds)) ≡ or_later (or_later f (first_fault cs)) (first_fault ds)
    go (Err v) = refl
    go (Ok _) = refl

-- where nothing was found the first check found nothing, nor did the others
pub passed_first : (f later : Finding) → or_later f later ≡ Ok tt → (f ≡ Ok tt) × (later ≡ Ok tt)
unfolding or_later
passed_first (Err v) later e = not_passed e
passed_first (Ok _) later e = (refl, e)

-- ---- places

module _ (number file m : ℕ) where
  abbrev at_places : (ℕ → Bool) → Check
  at_places fails = check number file (0 ∷ []) (numbers 0 m) (λ w. fails)

  pub places_pass : (fails : ℕ → Bool) → finding (at_places fails) ≡ Ok tt → (i : ℕ) → i < m → fails i ≡ false
  unfolding finding sweep at_fault
  places_pass fails e i h = go (least fails 0 m) refl e
    where
      go : (x : Option ℕ) → least fails 0 m ≡ x → at_fault number file 0 x (Ok tt) ≡ Ok tt → fails i ≡ false
      go (Some k) q e = not_passed e
      go None q e = least_says fails 0 m None q i (omega arith) (omega arith)

  pub places_none : (fails : ℕ → Bool) → ((i : ℕ) → i < m → fails i ≡ false) → finding (at_places fails) ≡ Ok tt
  unfolding finding sweep at_fault
  places_none fails none = go (least fails 0 m) refl
    where
      go : (x : Option ℕ) → least fails 0 m ≡ x → at_fault number file 0 x (Ok tt) ≡ Ok tt
      go (Some k) q = let l = least_says fails 0 m (Some k) q in absurd (clash l.passes (none k (omega (arith, l.below))))
      go None q = refl

-- two checks of places that test alike
pub places_alike : (number file m : ℕ) {fails fails' : ℕ → Bool} → ((i : ℕ) → i < m → fails i ≡ fails' i)
    → finding (check number file (0 ∷ []) (numbers 0 m) (λ w. fails)) ≡ finding (check number file (0 ∷ []) (numbers 0 m) (λ w. fails'))
unfolding finding sweep first
places_alike number file m {fails} {fails'} same = ap (λ (x : Option ℕ). at_fault number file 0 x (Ok tt)) (go (numbers 0 m) (λ i x. same i (in_index m i x)))
  where
    go : (is : List ℕ) → ((i : ℕ) → In i is → fails i ≡ fails' i) → first fails is ≡ first fails' is
    go [] same = refl
    go (i ∷ is) same = rw (same i (inl refl)) (ap (cond (fails' i) (Some i)) (go is (λ k x. same k (inr x))))
