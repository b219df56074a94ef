-- Numbers in order, tests of lists, and bits.
use Rattle.std.specs.Prelude.{ℕ, zero, suc, ◌/◌, ◌%◌, ◌^◌, ◌+◌, ◌*◌, Bool, true, false, not, eqb}
use Rattle.gates.specs.Cell.{bit}
unfoldable pub use Rattle.verdict.specs.Lists.{numbers, select, some, every, reaches}

-- exactly one of two
abbrev pub xor : Bool → Bool → Bool
xor true b = not b
xor false b = b

-- bit i of a number, and the number of m bits
abbrev pub bit_of : ℕ → ℕ → Bool
bit_of w i = eqb (w / 2 ^ i % 2) 1

unfoldable pub of_bits : ℕ → (ℕ → Bool) → ℕ
of_bits zero bits = 0
of_bits (suc m) bits = bit (bits 0) + 2 * of_bits m (λ i. bits (suc i))
