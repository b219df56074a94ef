-- `text_table::index_gates` meets its contract. The loop's invariant: the nets of the lines so far are entries, and `at` is where the next begins.
-- Assumes nothing.
use Prim.Native.Nat.{◌+◌}
use mathlib.Core.Path.{◌≡◌}
use lib.ListN.{length, drop}
use Rattle.text_scan.specs.Pieces.{lines_in}
use Rattle.text_table.proofs.Tables.{GatesTo}
use Rattle.text_table.proofs.index_gates.Given as goal

abbrev pub invariant-loop-i : goal.invariant-loop-i
invariant-loop-i l =
    record {
      can : (goal.iterator-loop-i).can_next l.i-iterator;
      finite : (goal.iterator-loop-i).is_finite l.i-iterator;
      entries : GatesTo l.s l.start l.initial.table l.rails l.table l.at (l.rails + length l.yielded);
      lines : drop (length l.yielded) (lines_in (drop l.start l.s)) ≡ lines_in (drop l.at l.s);
    }
