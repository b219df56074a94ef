-- The family as a list: the numbered stages of each shape that have no loop, shape by shape. What the theorems and the code of the family go by;
-- no contract of a call names it.
use Rattle.std.specs.Prelude.{ℕ, zero, suc, ◌+◌, ◌*◌, ◌-◌, ◌/◌, ◌%◌, ◌≤◌, ◌<◌, ◌≡◌, Bool, true, cond, ◌&&◌, ◌||◌, not, List, [], ◌∷◌, ◌++◌, drop, eqb}
use Rattle.check_spec.specs.Content.{Content}
use Rattle.next_spec.specs.Numbered.{nets_of, stages, stage_numbered}

-- ---- loops

-- 1 or 2 inputs and 0 to 2 gates
pub record InShape (n g : ℕ) : Type 0 where
  pub inputs_in : (1 ≤ n) × (n ≤ 2)
  pub gates_in_holds : g ≤ 2

-- gate x over m nets has a net at one of its two pins
abbrev pub has_pin : ℕ → ℕ → ℕ → Bool
has_pin m x net = eqb (x % (m * m) / m) net || eqb (x % (m * m) % m) net

-- of two gates a and b, with n inputs, none is at a pin of its own, and not each at a pin of the other
abbrev pub two_free : ℕ → ℕ → ℕ → Bool
two_free n a b =
    let m = 2 * n + 2 in
    not (has_pin m a (2 * n)) && not (has_pin m b (2 * n + 1)) && not (has_pin m a (2 * n + 1) && has_pin m b (2 * n))

-- the same of list x of g gates
abbrev pub no_loop : ℕ → ℕ → ℕ → Bool
no_loop n zero x = true
no_loop n (suc zero) x = not (has_pin (2 * n + 1) x (2 * n))
no_loop n (suc (suc zero)) x = let k = 2 * ((2 * n + 2) * (2 * n + 2)) in two_free n (x / k) (x % k)
no_loop n (suc (suc (suc g))) x = true

-- stage z of those with n inputs and g gates has no loop
unfoldable pub free : ℕ → ℕ → ℕ → Bool
free n g z = no_loop n g (z / (nets_of n g * nets_of n g))

-- ---- the family as a list

-- of m stages from number z on, those without a loop
unfoldable pub loop_free_from : ℕ → ℕ → ℕ → ℕ → List Content
loop_free_from n g z zero = []
loop_free_from n g z (suc m) = let later = loop_free_from n g (suc z) m in cond (free n g z) (stage_numbered n g z ∷ later) later

unfoldable pub group : ℕ → ℕ → List Content
group n g = loop_free_from n g 0 (stages n g)

-- so many inputs and gates
pub record Shape : Type 0 where
  pub inputs : ℕ
  pub gates : ℕ

abbrev pub shape : ℕ → ℕ → Shape
shape n g = record { inputs = n; gates = g }

-- the groups of some shapes, one after another
abbrev pub stages_of : List Shape → List Content
stages_of [] = []
stages_of (h ∷ hs) = group h.inputs h.gates ++ stages_of hs

unfoldable pub shapes : List Shape
shapes = shape 1 0 ∷ shape 1 1 ∷ shape 1 2 ∷ shape 2 0 ∷ shape 2 1 ∷ shape 2 2 ∷ []

unfoldable pub listing : List Content
listing = stages_of shapes

-- ---- places in the list

-- number z of the stages with n inputs and g gates is in the family
pub record Listed (n g z : ℕ) : Type 0 where
  pub shaped : InShape n g
  pub below : z < stages n g
  pub loop_free : free n g z ≡ true

-- the stages of the family from number z of its shape on
unfoldable pub onward : ℕ → ℕ → ℕ → List Content
onward n g z = loop_free_from n g z (stages n g - z) ++ stages_of (drop (3 * (n - 1) + g + 1) shapes)
