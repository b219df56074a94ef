-- `circuit_load::load_parts` meets its contract. The loop's invariant, `PartsLeft`: putting the rows of the notes from i on gives both tables.
-- Assumes nothing.
use Rattle.circuit_load.specs.Parts.{parts_in}
use Rattle.circuit_load.proofs.Tables.{PartsLeft}
use Rattle.circuit_load.proofs.load_parts.Given as goal

abbrev pub invariant-loop-note : goal.invariant-loop-note
invariant-loop-note l = PartsLeft (parts_in l.s l.notes) l.first l.initial.nets l.nets l.initial.regs l.regs l.here l.note-index
