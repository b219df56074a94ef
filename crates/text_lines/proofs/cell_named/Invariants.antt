-- `text_lines::cell_named` meets its contract. The loop's invariant: none of the first k cells has the name. Assumes nothing.
use Rattle.text_lines.proofs.LineForms.{Unnamed}
use Rattle.text_lines.proofs.cell_named.Given as goal

abbrev pub invariant-loop-k : goal.invariant-loop-k
invariant-loop-k l = Unnamed l.s l.k
