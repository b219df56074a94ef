-- `text_read::put_lines` meets its contract. The loop's invariant: the lines so far are put. Assumes nothing.
use lib.ListN.{length, drop}
use Rattle.text_names.specs.Tailed.{drivers_of}
use Rattle.text_scan.specs.Pieces.{lines_in}
use Rattle.text_lines.specs.Names.{NameTable}
use Rattle.text_read.proofs.Making.{LinesPut}
use Rattle.text_read.proofs.put_lines.Given as goal

abbrev pub invariant-loop-line : goal.invariant-loop-line
invariant-loop-line l =
    record {
      can : (goal.iterator-loop-line).can_next l.line-iterator;
      finite : (goal.iterator-loop-line).is_finite l.line-iterator;
      names : NameTable l.names;
      lines : LinesPut (drivers_of l.s) (lines_in (drop l.start l.s)) l.initial.work l.work (length l.yielded) l.put;
    }
