-- The parts that a stage file and a reference file are put in: care words, gates, outputs.
use Rattle.std.specs.Prelude.{ℕ, List, [], ◌∷◌, map}
use Rattle.netlist.specs.declared.File.{File}
use Rattle.netlist.specs.Content.{Gate, Pair}
use Rattle.netlist.specs.Writing.{Item, gate, output, coded_gate, pair_operands, write_items}

-- a gate and an output of a stage, and an output of a reference, as items of their files
abbrev pub gate_item : Gate → Item
gate_item g = gate (coded_gate g)

abbrev pub pair_item : Pair → Item
pair_item p = output (pair_operands p)

abbrev pub signal_item : ℕ → Item
signal_item v = output (v ∷ [])

-- the bytes of some of these, one after the other
unfoldable pub bytes_of : {X : Type 0} → File → (X → Item) → List X → List ℕ
bytes_of f item xs = write_items f (map item xs)
