-- Set expressions grow with their pins, and none holds where all pins are low.
-- Assumes nothing.
use Prim.Native.Nat.{ℕ}
use mathlib.Core.Path.{◌≡◌, refl}
use mathlib.Core.Bool.{Bool, true, false, ◌&&◌, ◌||◌}
use Rattle.gates.specs.Expression.{Expression, A, B, C, D, ◌·◌, ◌∔◌, holds}

&&-mono : (a b c d : Bool) → (a ≡ true → c ≡ true) → (b ≡ true → d ≡ true) → (a && b) ≡ true → (c && d) ≡ true
&&-mono true b c d f g e = rw (f refl) (g e)
&&-mono false b c d f g e = cc

||-mono : (a b c d : Bool) → (a ≡ true → c ≡ true) → (b ≡ true → d ≡ true) → (a || b) ≡ true → (c || d) ≡ true
||-mono true b c d f g e = rw (f refl)
||-mono false b true d f g e = refl
||-mono false b false d f g e = g e

pub holds_mono : (e : Expression) (p q : ℕ → Bool) → ((i : ℕ) → p i ≡ true → q i ≡ true) → holds e p ≡ true → holds e q ≡ true
holds_mono A p q h t = h 0 t
holds_mono B p q h t = h 1 t
holds_mono C p q h t = h 2 t
holds_mono D p q h t = h 3 t
holds_mono (e · f) p q h t = &&-mono (holds e p) (holds f p) (holds e q) (holds f q) (holds_mono e p q h) (holds_mono f p q h) t
holds_mono (e ∔ f) p q h t = ||-mono (holds e p) (holds f p) (holds e q) (holds f q) (holds_mono e p q h) (holds_mono f p q h) t

pub holds_low : (e : Expression) (p : ℕ → Bool) → ((i : ℕ) → p i ≡ false) → holds e p ≡ false
holds_low A p h = h 0
holds_low B p h = h 1
holds_low C p h = h 2
holds_low D p h = h 3
holds_low (e · f) p h = rw (holds_low e p h)
holds_low (e ∔ f) p h = rw (holds_low e p h, holds_low f p h)

-- only the pins A to D count
pub holds_local : (e : Expression) (p q : ℕ → Bool) → p 0 ≡ q 0 → p 1 ≡ q 1 → p 2 ≡ q 2 → p 3 ≡ q 3 → holds e p ≡ holds e q
holds_local A p q a b c d = a
holds_local B p q a b c d = b
holds_local C p q a b c d = c
holds_local D p q a b c d = d
holds_local (e · f) p q a b c d = rw (holds_local e p q a b c d, holds_local f p q a b c d)
holds_local (e ∔ f) p q a b c d = rw (holds_local e p q a b c d, holds_local f p q a b c d)
