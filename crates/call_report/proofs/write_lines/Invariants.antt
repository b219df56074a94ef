-- `call_report::write_lines` meets its contract. The loop's invariant: the lines of the names before name k are written, and their sum is known.
-- Assumes nothing.
use Rattle.call_report.specs.Lines.{lines_by, LinesTo}
use Rattle.call_report.proofs.write_lines.Given as goal

abbrev pub invariant-loop-k : goal.invariant-loop-k
invariant-loop-k l = LinesTo (lines_by l.order l.inputs l.high l.list) l.k l.lines l.total
