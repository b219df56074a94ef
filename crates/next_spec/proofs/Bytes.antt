-- The bytes of a numbered stage, digit by digit.
-- Assumes nothing.
use Prim.Native.Nat.{ℕ, zero, suc, ◌+◌, ◌*◌, ◌/◌, ◌%◌}
use mathlib.Core.List.{List, [], ◌∷◌}
use Rattle.next_spec.specs.Numbered.{lists}

-- two operands of a file, and what follows them
abbrev pub two_bytes : ℕ → ℕ → List ℕ → List ℕ
two_bytes m y rest = (y / m) % 256 ∷ (y / m) / 256 ∷ (y % m) % 256 ∷ (y % m) / 256 ∷ rest

-- a gate, g gates, and what follows them
abbrev pub gate_bytes : ℕ → ℕ → List ℕ → List ℕ
gate_bytes m x rest = 0x02 ∷ (1 + x / (m * m)) ∷ two_bytes m (x % (m * m)) (0xFF ∷ 0xFF ∷ 0xFF ∷ 0xFF ∷ rest)

unfoldable pub list_bytes : ℕ → ℕ → ℕ → List ℕ → List ℕ
list_bytes m zero x rest = rest
list_bytes m (suc g) x rest = gate_bytes m (x / lists m g) (list_bytes m g (x % lists m g) rest)

-- the output and the end
abbrev pub output_bytes : ℕ → ℕ → List ℕ
output_bytes m y = 0x03 ∷ two_bytes m y (0x00 ∷ [])
