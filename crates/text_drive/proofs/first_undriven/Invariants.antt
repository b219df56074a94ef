-- `text_drive::first_undriven` meets its contract. The loop's invariant: the pins of the lines so far are driven. Assumes nothing.
use lib.ListN.{length, drop}
use Rattle.text_names.specs.Tailed.{drivers_of}
use Rattle.text_scan.specs.Pieces.{lines_in}
use Rattle.text_drive.proofs.Needed.{NeedsBefore}
use Rattle.text_drive.proofs.first_undriven.Given as goal

abbrev pub invariant-loop-i : goal.invariant-loop-i
invariant-loop-i l =
    record {
      can : (goal.iterator-loop-i).can_next l.i-iterator;
      finite : (goal.iterator-loop-i).is_finite l.i-iterator;
      before : NeedsBefore (drivers_of l.s) (lines_in (drop l.start l.s)) (length l.yielded);
    }
