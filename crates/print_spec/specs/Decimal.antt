-- Numbers in decimal.
use Rattle.std.specs.Prelude.{ℕ, List}
use Rattle.text_spec.specs.ToText.{digits}

-- a number below 2 ^ 64 in decimal: it has at most 20 digits
unfoldable pub decimal : ℕ → List ℕ
decimal n = digits 20 n
