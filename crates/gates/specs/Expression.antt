-- Set expressions: the pins A, B, C, D, joined by AND and OR.
use Rattle.std.specs.Prelude.{ℕ, Bool, ◌&&◌, ◌||◌}

infixl 45 ◌·◌
infixl 40 ◌∔◌
-- `e · f` is AND (letters side by side in the paper), `e ∔ f` is OR (its plus)
pub data Expression : Type 0 where
  A B C D : Expression
  ◌·◌ ◌∔◌ : Expression → Expression → Expression

-- whether the expression holds where `pins i` says whether pin i is high: A is pin 0, D is pin 3
abbrev pub holds : Expression → (ℕ → Bool) → Bool
holds A pins = pins 0
holds B pins = pins 1
holds C pins = pins 2
holds D pins = pins 3
holds (e · f) pins = holds e pins && holds f pins
holds (e ∔ f) pins = holds e pins || holds f pins
