-- The tests of a check say of a row what the theory of runs says of it.
-- Assumes nothing.
use Prim.Native.Nat.{ℕ}
use mathlib.Core.Path.{◌≡◌, refl, ap, ◌∙◌}
use mathlib.Core.Logic.{◌⊎◌, inl, inr, ◌↔◌}
use mathlib.Core.Bool.{Bool, true, false, cond, not, ◌||◌}
use mathlib.Core.List.{List, [], ◌∷◌}
use Rattle.runs.specs.Row.{Row, only, ◌∖◌}
use Rattle.runs.specs.Net.{Net, rails_of_inputs}
use Rattle.runs.specs.Settled.{Settled}
use Rattle.runs.specs.Pair.{DataOf, AllData, AllNull}
use Rattle.runs.proofs.Test.{clash, and_left, and_right, of_not}
use Rattle.runs.proofs.Moves.{missing_held}
use Rattle.verdict.specs.Graph.{In}
use Rattle.verdict.proofs.Words.{index_in, in_index}
use Rattle.check_spec.specs.Lists.{xor, numbers, every}
use Rattle.check_spec.specs.Rows.{net_of, risen, data_of, all_data, all_null}
use Rattle.check_spec.specs.Words.{rails_for}
use Rattle.check_spec.specs.Content.{Content}
use Rattle.check_spec.specs.Checks.{incomplete}
use Rattle.check_spec.specs.Demands.{LoopFree}
use Rattle.check_spec.proofs.Loops.{risen_is}

-- every one of a list passes a test, or some one does not
pub every_out : (test : ℕ → Bool) (l : List ℕ) → every test l ≡ true → (x : ℕ) → In x l → test x ≡ true
unfolding every
every_out test [] e x i = elim i [ ]
every_out test (y ∷ l) e x i = go (test y) refl e i (every_out test l)
  where
    go : (b : Bool) → test y ≡ b → cond b (every test l) false ≡ true → (x ≡ y) ⊎ In x l → (every test l ≡ true → (x : ℕ) → In x l → test x ≡ true) → test x ≡ true
    go true q e (inl p) later = ap test p ∙ q
    go true q e (inr i) later = later e x i
    go false q e i later = absurd (clash e refl)

pub every_in : (test : ℕ → Bool) (l : List ℕ) → ((x : ℕ) → In x l → test x ≡ true) → every test l ≡ true
unfolding every
every_in test [] f = refl
every_in test (y ∷ l) f = rw (f y (inl refl)) (every_in test l (λ x i. f x (inr i)))

pub every_not : (test : ℕ → Bool) (l : List ℕ) → every test l ≡ false → (x : ℕ) × In x l × (test x ≡ false)
unfolding every
every_not test [] e = absurd (clash refl e)
every_not test (y ∷ l) e = go (test y) refl e (every_not test l)
  where
    go : (b : Bool) → test y ≡ b → cond b (every test l) false ≡ false → (every test l ≡ false → (x : ℕ) × In x l × (test x ≡ false)) → (x : ℕ) × In x (y ∷ l) × (test x ≡ false)
    go true q e later = let r = later e in (r.0, inr r.1, r.2)
    go false q e later = (y, inl refl, q)

xor-out : (a b : Bool) → xor a b ≡ true → a ≡ not b
xor-out true true e = absurd (clash e refl)
xor-out true false e = refl
xor-out false true e = refl
xor-out false false e = absurd (clash e refl)

xor-in : (a b : Bool) → a ≡ not b → xor a b ≡ true
xor-in true true e = absurd (clash refl e)
xor-in true false e = refl
xor-in false true e = refl
xor-in false false e = absurd (clash e refl)

-- DATA of a bit, tested and said
pub data_of_holds : (r : Row) (p : Bool → ℕ) (b : Bool) → (data_of r p b ≡ true) ↔ DataOf r p b
data_of_holds r p b = (
  (λ e. (and_left (r (p b)) _ e, of_not (r (p (not b))) (and_right (r (p b)) _ e))),
  (λ d. rw (d.0, d.1)),
)

pub all_data_holds : (N : Net) (r : Row) → (all_data N r ≡ true) ↔ AllData N r
all_data_holds N r = (
  (λ e j h. xor-out (r (N.rail j false)) (r (N.rail j true)) (every_out test (numbers 0 N.outputs) e j (index_in N.outputs j h))),
  (λ d. every_in test (numbers 0 N.outputs) (λ j i. xor-in (r (N.rail j false)) (r (N.rail j true)) (d j (in_index N.outputs j i)))),
)
  where
    test : ℕ → Bool
    test j = xor (r (N.rail j false)) (r (N.rail j true))

nor_out : (a b : Bool) → not (a || b) ≡ true → (a ≡ false) × (b ≡ false)
nor_out true b e = absurd (clash e refl)
nor_out false true e = absurd (clash e refl)
nor_out false false e = (refl, refl)

nor_in : (a b : Bool) → a ≡ false → b ≡ false → not (a || b) ≡ true
nor_in a b p q = rw (p, q)

pub all_null_holds : (N : Net) (r : Row) → (all_null N r ≡ true) ↔ AllNull N r
all_null_holds N r = (
  (λ e j h. nor_out (r (N.rail j false)) (r (N.rail j true)) (every_out test (numbers 0 N.outputs) e j (index_in N.outputs j h))),
  (λ d. every_in test (numbers 0 N.outputs) (λ j i. let n = d j (in_index N.outputs j i) in nor_in (r (N.rail j false)) (r (N.rail j true)) n.0 n.1)),
)
  where
    test : ℕ → Bool
    test j = not (r (N.rail j false) || r (N.rail j true))

-- 14 of a loop-free stage is the paper's: with input i NULL every settled row, of which there is one, has all outputs DATA
pub incomplete_means : (s : Content) → LoopFree (net_of s) → (w i : ℕ) → incomplete s w i ≡ true
    → (r : Row) → Settled (net_of s) (rails_for w ∖ rails_of_inputs (net_of s) (only i)) r → AllData (net_of s) r
unfolding incomplete
incomplete_means s free w i e r h =
    let X = rails_of_inputs (net_of s) (only i) in
    let one : r ≡ risen (net_of s) (rails_for w) X = (risen_is s free (rails_for w) X).1 r (missing_held (net_of s) (rails_for w) (only i) r h) in
    (all_data_holds (net_of s) r).0 (ap (all_data (net_of s)) one ∙ e)
