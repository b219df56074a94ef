-- `text_drive::gates_again` meets its contract. The loop's invariant: no net so far is driven before. Assumes nothing.
use lib.ListN.{length, drop}
use Rattle.text_names.specs.Tailed.{drivers_of}
use Rattle.text_scan.specs.Pieces.{lines_in}
use Rattle.text_drive.proofs.Again.{GatesOnce}
use Rattle.text_drive.proofs.gates_again.Given as goal

abbrev pub invariant-loop-i : goal.invariant-loop-i
invariant-loop-i l =
    record {
      can : (goal.iterator-loop-i).can_next l.i-iterator;
      finite : (goal.iterator-loop-i).is_finite l.i-iterator;
      before : GatesOnce (drivers_of l.s) (lines_in (drop l.start l.s)) l.rails (length l.yielded);
    }
