-- Notions of rows and nets that the laws use and no promise does.
-- Assumes nothing.
use Rattle.std.specs.Prelude.{◌≡◌, Bool, true, not, cond, List, ℕ, ◌/◌, ◌%◌, eqb}
use Rattle.runs.specs.Row.{Row, Rule, after, Legal}
use Rattle.runs.specs.Net.{Net, IsGate}

infix 50 ◌⊑◌
-- Every net that is high in the first row is high in the second.
abbrev pub ◌⊑◌ : Row → Row → Type 0
◌⊑◌ r s = (k : ℕ) → r k ≡ true → s k ≡ true

-- Some list leads from row s to row r.
pub record Reached (can : Rule) (s r : Row) : Type 0 where
  pub list : List ℕ
  pub legal : Legal can s list
  pub arrives : after s list ≡ r

-- Every gate has hold.
abbrev pub AllHold : Net → Type 0
AllHold N = (g : ℕ) → IsGate N g → N.hold g ≡ true

-- The rails that some bits call for: rail 1 of input i if bit i is 1, rail 0 if it is 0.
abbrev pub word_rails : (ℕ → Bool) → Row
word_rails w k = cond (eqb (k % 2) 1) (w (k / 2)) (not (w (k / 2)))
