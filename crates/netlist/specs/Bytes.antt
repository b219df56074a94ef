-- Bytes of a file and the operands in them. A file is a list of bytes.
use Rattle.std.specs.Prelude.{ℕ, zero, suc, ◌+◌, ◌*◌, ◌/◌, ◌%◌, List, [], ◌∷◌, get_or}

abbrev pub byte : List ℕ → ℕ → ℕ
byte s at = get_or s at 0

-- a u16 operand has its low byte first
unfoldable pub operand : List ℕ → ℕ → ℕ
operand s at = byte s at + 256 * byte s (at + 1)

-- k operands, one after the other
unfoldable pub operands : List ℕ → ℕ → ℕ → List ℕ
operands s at zero = []
operands s at (suc k) = operand s at ∷ operands s (at + 2) k

-- what an operand that is not used holds; it names nothing
abbrev pub absent : ℕ
absent = 0xFFFF

-- what stands at a register's request input that is requested from outside; it names no net
abbrev pub outside : ℕ
outside = 0xFFFE

-- k operands as they are written, FFFF where there is none
abbrev pub write_operands : ℕ → List ℕ → List ℕ
write_operands zero vs = []
write_operands (suc k) [] = 0xFF ∷ 0xFF ∷ write_operands k []
write_operands (suc k) (v ∷ vs) = v % 256 ∷ v / 256 ∷ write_operands k vs
