-- Lists: a property of all elements, lists of bytes, and maps that undo one another.
-- Assumes nothing.
use Prim.Native.Nat.{ℕ, zero, suc, ◌<◌}
use native.Mathlib.Omega.{arith}
use mathlib.Core.Path.{◌≡◌, refl, ap₂}
use mathlib.Core.List.{List, [], ◌∷◌, ◌++◌, map}
use Rattle.netlist.specs.Bytes.{byte}
use Rattle.netlist.specs.Writing.{All}

-- ---- all elements

pub All-++ : {X : Type 0} (P : X → Type 0) (xs ys : List X) → All P xs → All P ys → All P (xs ++ ys)
All-++ P [] ys h k = k
All-++ P (x ∷ xs) ys h k = (h.0, All-++ P xs ys h.1 k)

pub All-every : {X : Type 0} (P : X → Type 0) → ((x : X) → P x) → (xs : List X) → All P xs
All-every P h [] = tt
All-every P h (x ∷ xs) = (h x, All-every P h xs)

pub All-map : {X : Type 0} (P Q : X → Type 0) → ((x : X) → P x → Q x) → (xs : List X) → All P xs → All Q xs
All-map P Q f [] h = tt
All-map P Q f (x ∷ xs) h = (f x h.0, All-map P Q f xs h.1)

-- ---- bytes

abbrev pub Bytes : List ℕ → Type 0
Bytes s = All (λ b. b < 256) s

pub byte_small : (s : List ℕ) → Bytes s → (i : ℕ) → byte s i < 256
byte_small [] h i = omega arith
byte_small (b ∷ s) h zero = h.0
byte_small (b ∷ s) h (suc i) = byte_small s h.1 i

-- ---- maps

-- g undoes f
pub map_back : {X Y : Type 0} (g : Y → X) (f : X → Y) (xs : List X) → All (λ x. g (f x) ≡ x) xs → map g (map f xs) ≡ xs
map_back g f [] h = refl
map_back {X} g f (x ∷ xs) h = ap₂ {C = List X} (λ y l. y ∷ l) h.0 (map_back g f xs h.1)

-- writing what the places show is writing what they were shown from
pub map_again : {X Y Z : Type 0} (i : Y → Z) (from : X → Y) (to : Y → X) (view : ℕ → Y) (ps : List ℕ) →
    All (λ y. from (to y) ≡ y) (map view ps) → map (λ x. i (from x)) (map (λ p. to (view p)) ps) ≡ map i (map view ps)
map_again i from to view [] h = refl
map_again {Z} i from to view (p ∷ ps) h = ap₂ {C = List Z} (λ y l. i y ∷ l) h.0 (map_again i from to view ps h.1)
