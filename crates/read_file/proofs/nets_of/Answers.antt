-- `read_file::nets_of` meets its contract. Assumes nothing.
use Rattle.read_file.proofs.Carrying.{element_count, register_count_holds}
use Rattle.read_file.proofs.nets_of.Goals as goal

pub returns-then-note-eq1 : goal.returns-then-note-eq1
returns-then-note-eq1 c = element_count _ c.if-note-eq1.true

pub returns-else-note-eq1 : goal.returns-else-note-eq1
returns-else-note-eq1 c = register_count_holds _ c.if-note-eq1.false
