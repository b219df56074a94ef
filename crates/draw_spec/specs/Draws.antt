-- Numbers that are drawn from a state of 32 bits, and the gates of a reference that are made of them.
use Rattle.std.specs.Prelude.{ℕ, zero, suc, ◌+◌, ◌/◌, ◌%◌, List, [], ◌∷◌}
use Rattle.std.specs.Int.Bits.{bit_xor}
use Rattle.netlist.specs.declared.File.TheVariants as file
use Rattle.netlist.specs.Commands.{needed}
use Rattle.netlist.specs.Coded.{Coded}

-- ---- a draw

-- "Each draw replaces s by s plus 2,654,435,769, the sum taken modulo 4,294,967,296"
unfoldable pub advance : ℕ → ℕ
advance s = (s + 2654435769) % 4294967296

-- "and yields the new s exclusive-or its quotient by 65,536"
unfoldable pub yield : ℕ → ℕ
yield new = bit_xor new (new / 65536)

-- the draw from state s, mod k
abbrev pub draw : ℕ → ℕ → ℕ
draw s k = yield (advance s) % k

-- the state after k draws
unfoldable pub after : ℕ → ℕ → ℕ
after zero s = s
after (suc k) s = after k (advance s)

-- ---- a gate

-- "operation 1 plus draw mod 6"
abbrev pub operation_from : ℕ → ℕ
operation_from s = 1 + draw s 6

-- how many operands this operation needs: one for NOT, two for the others
abbrev pub needed_from : ℕ → ℕ
needed_from s = needed file.Reference (operation_from s)

-- "then each operand it needs, a draw mod the signals so far": k operands
unfoldable pub operands_from : ℕ → ℕ → ℕ → List ℕ
operands_from signals zero s = []
operands_from signals (suc k) s = draw s signals ∷ operands_from signals k (advance s)

-- the gate that is drawn from state s after so many signals: the operation first, then its operands
unfoldable pub gate_from : ℕ → ℕ → Coded
gate_from signals s = record { code = operation_from s; operands = operands_from signals (needed_from s) (advance s) }

-- the state after a gate
unfoldable pub after_gate : ℕ → ℕ
after_gate s = after (needed_from s) (advance s)

-- ---- all gates

-- g gates, the first of them after so many signals; each gate is a signal more
unfoldable pub gates_from : ℕ → ℕ → ℕ → List Coded
gates_from signals zero s = []
gates_from signals (suc g) s = gate_from signals s ∷ gates_from (suc signals) g (after_gate s)
