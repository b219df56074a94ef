-- `text_table::link` meets its contract. Assumes nothing.
use Rattle.text_table.proofs.Tables.{Linking}
use Rattle.text_table.proofs.link.Given as goal

abbrev pub invariant-loop-k : goal.invariant-loop-k
invariant-loop-k l = Linking l.initial.table l.table l.count l.k
