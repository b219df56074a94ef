-- Lists: an element of a list of which something holds, and an element of a map.
-- Assumes nothing.
use Prim.Native.Nat.{ℕ, zero, suc, ◌<◌}
use native.Mathlib.Omega.{arith}
use mathlib.Core.Path.{◌≡◌, refl}
use mathlib.Core.Bool.{Bool, true}
use mathlib.Core.Logic.{inl, inr}
use mathlib.Core.List.{List, [], ◌∷◌, map}
use lib.ListN.{length, get_or}
use Rattle.runs.specs.Acyclic.{AllPins}
use Rattle.netlist.specs.Writing.{All, EachFrom}
use Rattle.verdict.specs.Loops.{In}

pub All-get : {X : Type 0} (P : X → Type 0) (xs : List X) → All P xs → (k : ℕ) (d : X) → k < length xs → P (get_or xs k d)
All-get P [] h k d l = absurd (omega arith)
All-get P (x ∷ xs) h zero d l = h.0
All-get P (x ∷ xs) h (suc k) d l = All-get P xs h.1 k d (omega arith)

pub pins_in_holds : (P : ℕ → Type 0) (xs : List ℕ) → AllPins P xs → (x : ℕ) → In x xs → P x
pins_in_holds P [] h x i = absurd i
pins_in_holds P (y ∷ xs) h x (inl e) = rw e h.0
pins_in_holds P (y ∷ xs) h x (inr i) = pins_in_holds P xs h.1 x i

pub All-pins : (P : ℕ → Type 0) (xs : List ℕ) → All P xs → AllPins P xs
All-pins P [] h = tt
All-pins P (x ∷ xs) h = (h.0, All-pins P xs h.1)

-- of a map
pub All-mapped : {X Y : Type 0} (P : X → Type 0) (Q : Y → Type 0) (f : X → Y) → ((x : X) → P x → Q (f x)) → (xs : List X) → All P xs → All Q (map f xs)
All-mapped P Q f h [] a = tt
All-mapped P Q f h (x ∷ xs) a = (h x a.0, All-mapped P Q f h xs a.1)

-- operands that pass a test, moved
pub Each-mapped : (test test' : ℕ → ℕ → Bool) (f : ℕ → ℕ) → ((i v : ℕ) → test i v ≡ true → test' i (f v) ≡ true) → (i : ℕ) (vs : List ℕ) → EachFrom test i vs → EachFrom test' i (map f vs)
Each-mapped test test' f h i [] a = tt
Each-mapped test test' f h i (v ∷ vs) a = (h i v a.0, Each-mapped test test' f h (suc i) vs a.1)

pub map_get : {X Y : Type 0} (f : X → Y) (xs : List X) (k : ℕ) (d : X) (e : Y) → k < length xs → get_or (map f xs) k e ≡ f (get_or xs k d)
map_get f [] k d e l = absurd (omega arith)
map_get f (x ∷ xs) zero d e l = refl
map_get f (x ∷ xs) (suc k) d e l = map_get f xs k d e (omega arith)

pub in_map : (f : ℕ → ℕ) (xs : List ℕ) (y : ℕ) → In y (map f xs) → (x : ℕ) × In x xs × (y ≡ f x)
in_map f [] y i = absurd i
in_map f (x ∷ xs) y (inl e) = (x, inl refl, e)
in_map f (x ∷ xs) y (inr i) = let r = in_map f xs y i in (r.0, inr r.1, r.2)
