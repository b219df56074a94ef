-- `text_drive::rails_again` meets its contract. The loop's invariant: no rail of the names so far is driven before. Assumes nothing.
use Prim.Native.Nat.{◌+◌, ◌-◌}
use lib.ListN.{length, take, drop}
use Rattle.text_spec.specs.Characters.{newline, comma}
use Rattle.text_spec.specs.Lines.{split}
use Rattle.text_scan.specs.Pieces.{before}
use Rattle.text_names.specs.Tailed.{nets_in, drivers_of}
use Rattle.text_drive.proofs.Again.{RailsOnce}
use Rattle.text_drive.proofs.rails_again.Given as goal

abbrev pub invariant-loop-i : goal.invariant-loop-i
invariant-loop-i l =
    record {
      can : (goal.iterator-loop-i).can_next l.i-iterator;
      finite : (goal.iterator-loop-i).is_finite l.i-iterator;
      before : RailsOnce (drivers_of l.s)
          (nets_in (drop (before newline l.s + 1 + before newline (take (length l.s - (before newline l.s + 1)) (drop (before newline l.s + 1) l.s)) + 1) l.s))
          (split comma l.line) (length l.yielded);
    }
