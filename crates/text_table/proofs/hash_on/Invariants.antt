-- `text_table::hash_on` meets its contract. Assumes nothing.
use Rattle.text_table.proofs.Tables.{Hashed}
use Rattle.text_table.proofs.hash_on.Given as goal

abbrev pub invariant-loop-b : goal.invariant-loop-b
invariant-loop-b l = Hashed l.h l.s l.r l.b-index
