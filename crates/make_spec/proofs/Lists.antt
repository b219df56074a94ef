-- Lists by their members and by their indices.
-- Assumes nothing.
use Prim.Native.Nat.{ℕ, zero, suc, ◌<◌}
use native.Mathlib.Omega.{arith}
use mathlib.Core.Path.{◌≡◌, refl, sym, subst}
use mathlib.Core.Bool.{true}
use mathlib.Core.Logic.{inl, inr}
use mathlib.Core.List.{List, [], ◌∷◌, map}
use lib.ListN.{length, get_or}
use lib.Dec.{eqb}
use Rattle.runs.proofs.Test.{eqb_same, eqb_eq}
use Rattle.netlist.specs.Writing.{All}
use Rattle.verdict.specs.Graph.{In}
use Rattle.check_spec.specs.Lists.{some}
use Rattle.verdict.proofs.Steps.{some_in, some_out}

pub all-at : {X : Type 0} (P : X → Type 0) (xs : List X) → All P xs → (i : ℕ) (d : X) → i < length xs → P (get_or xs i d)
all-at P [] h i d l = absurd (omega arith)
all-at P (x ∷ xs) h zero d l = h.0
all-at P (x ∷ xs) h (suc i) d l = all-at P xs h.1 i d (omega arith)

pub at_all : {X : Type 0} (P : X → Type 0) (xs : List X) (d : X) → ((i : ℕ) → i < length xs → P (get_or xs i d)) → All P xs
at_all P [] d h = tt
at_all P (x ∷ xs) d h = (h 0 (omega arith), at_all P xs d (λ i l. h (suc i) (omega arith)))

pub all_in : (P : ℕ → Type 0) (xs : List ℕ) → All P xs → (x : ℕ) → In x xs → P x
all_in P [] h x i = absurd i
all_in P (y ∷ ys) h x (inl e) = subst P (sym e) h.0
all_in P (y ∷ ys) h x (inr i) = all_in P ys h.1 x i

-- a member stands at an index
pub index_of : (xs : List ℕ) (x : ℕ) → In x xs → (j : ℕ) × (j < length xs) × (get_or xs j 0 ≡ x)
index_of [] x i = absurd i
index_of (y ∷ ys) x (inl e) = (0, omega arith, sym e)
index_of (y ∷ ys) x (inr i) = let r = index_of ys x i in (suc r.0, omega (arith, r.1), r.2)

-- what is mapped stands at the same index
pub map_at : {X : Type 0} (f : ℕ → X) (l : List ℕ) (j : ℕ) (d : X) → j < length l → get_or (map f l) j d ≡ f (get_or l j 0)
map_at f [] j d h = absurd (omega arith)
map_at f (x ∷ xs) zero d h = refl
map_at f (x ∷ xs) (suc j) d h = map_at f xs j d (omega arith)

-- the test of membership
pub among_in : (x : ℕ) (l : List ℕ) → some (eqb x) l ≡ true → In x l
among_in x l e = let r = some_out (eqb x) l e in subst (λ (y : ℕ). In y l) (sym (eqb_eq x r.0 r.2)) r.1

pub in_among : (x : ℕ) (l : List ℕ) → In x l → some (eqb x) l ≡ true
in_among x l i = some_in (eqb x) l x i (eqb_same x)
