-- A gate as its command has it, and what the kind of a stage's gate says.
use Rattle.std.specs.Prelude.{ℕ, ◌+◌, Bool, true, false, List}
use Rattle.gates.specs.declared.Kind.{Kind}
use Rattle.gates.specs.declared.Kind.TheVariants.{Hold, Relaxed, Unknown}
use Rattle.netlist.specs.Types.{File}
use Rattle.netlist.specs.Bytes.{byte, operands}
use Rattle.netlist.specs.Commands.{needed}

-- a gate command's kind or operation, and the operands that it needs
pub record Coded : Type 0 where
  pub code : ℕ
  pub operands : List ℕ

abbrev pub coded_at : File → List ℕ → ℕ → Coded
coded_at f s at = record { code = byte s (at + 1); operands = operands s (at + 2) (needed f (byte s (at + 1))) }

-- the cell of a kind, 1 to 27, and whether it has hold
abbrev pub cell_of : Kind → ℕ
cell_of (Hold cell pins) = cell
cell_of (Relaxed cell pins) = cell
cell_of Unknown = 0

abbrev pub hold_of : Kind → Bool
hold_of (Hold cell pins) = true
hold_of (Relaxed cell pins) = false
hold_of Unknown = false
