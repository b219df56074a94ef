-- The first values of a function: how many they are, value k, those from it on, one more, equal ones, and a list as such.
-- Assumes nothing.
use Prim.Native.Nat.{ℕ, zero, suc, ◌≤◌, ◌<◌}
use native.Mathlib.Omega.{arith}
use mathlib.Core.Path.{◌≡◌, refl, ap, ap₂, ◌∙◌}
use mathlib.Core.List.{List, [], ◌∷◌, ◌++◌, map}
use lib.ListN.{length, get_or, drop, drop_of_length-le}
use lib.Seq.{drop-cons}
use Rattle.circuit.specs.Stage.{tabulate}
pub use Rattle.verdict.proofs.Graph.{length_tabulate, get_d_tabulate}

-- those from the k-th on
pub from_at : {A : Type 0} (f : ℕ → A) (m k : ℕ) → k < m → drop k (tabulate f m) ≡ f k ∷ drop (suc k) (tabulate f m)
from_at {A} f m k h =
    drop-cons (tabulate f m) k (f 0) (omega (arith, length_tabulate f m)) ∙ ap (λ (x : A). x ∷ drop (suc k) (tabulate f m)) (get_d_tabulate f m k (f 0) h)

pub none_from : {A : Type 0} (f : ℕ → A) (m k : ℕ) → m ≤ k → drop k (tabulate f m) ≡ []
none_from f m k h = drop_of_length-le (tabulate f m) {i = k} (omega (arith, length_tabulate f m))

-- one more
pub one_more : {A : Type 0} (f : ℕ → A) (m : ℕ) → tabulate f (suc m) ≡ tabulate f m ++ (f m ∷ [])
unfolding tabulate
one_more f zero = refl
one_more {A} f (suc m) = ap (λ (l : List A). f 0 ∷ l) (one_more (λ i. f (suc i)) m)

-- equal ones
pub all_same : {A : Type 0} (f g : ℕ → A) (m : ℕ) → ((i : ℕ) → i < m → f i ≡ g i) → tabulate f m ≡ tabulate g m
unfolding tabulate
all_same f g zero h = refl
all_same f g (suc m) h = ap₂ ◌∷◌ (h 0 (omega arith)) (all_same (λ i. f (suc i)) (λ i. g (suc i)) m (λ i l. h (suc i) (omega arith)))

pub map_tabulate : {A B : Type 0} (g : A → B) (f : ℕ → A) (m : ℕ) → map g (tabulate f m) ≡ tabulate (λ i. g (f i)) m
unfolding tabulate
map_tabulate g f zero = refl
map_tabulate g f (suc m) = ap (λ l. g (f 0) ∷ l) (map_tabulate g (λ i. f (suc i)) m)

-- a list that is mapped by a rule has these values where they are the rule's
pub tabulate_map : {A : Type 0} (f g : ℕ → A) (l : List ℕ) (m : ℕ) → length l ≡ m → ((k : ℕ) → k < m → f k ≡ g (get_or l k 0)) → tabulate f m ≡ map g l
unfolding tabulate
tabulate_map f g [] zero e h = refl
tabulate_map f g [] (suc m) e h = absurd (omega arith)
tabulate_map f g (x ∷ l) zero e h = absurd (omega arith)
tabulate_map f g (x ∷ l) (suc m) e h =
    ap₂ ◌∷◌ (h 0 (omega arith)) (tabulate_map (λ i. f (suc i)) g l m (omega arith) (λ k b. h (suc k) (omega arith)))
