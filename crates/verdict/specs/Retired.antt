-- Gates of kinds that are no longer cast (28).
use Rattle.std.specs.Prelude.{ℕ, Bool, List, get_or}
use Rattle.gates.specs.Cell.{is_retired}
use Rattle.netlist.specs.Content.{Gate}
use Rattle.verdict.specs.Nets.{no_gate}

-- gate k is of a retired kind: its cell, with hold or relaxed, is no longer cast
unfoldable pub retired_at : List Gate → ℕ → Bool
retired_at gates k = is_retired (get_or gates k no_gate).cell
