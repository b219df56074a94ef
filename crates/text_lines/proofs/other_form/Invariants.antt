-- `text_lines::other_form` meets its contract. The loop's invariant: the lines so far are of their form, and `at` is where the next begins.
-- Assumes nothing.
use lib.ListN.{length}
use mathlib.Core.Path.{◌≡◌}
use Rattle.text_lines.proofs.LineForms.{FormedBefore}
use Rattle.text_lines.proofs.other_form.Given as goal

abbrev pub invariant-loop-i : goal.invariant-loop-i
invariant-loop-i l =
    record {
      can : (goal.iterator-loop-i).can_next l.i-iterator;
      finite : (goal.iterator-loop-i).is_finite l.i-iterator;
      count : l.next ≡ length l.yielded;
      before : FormedBefore l.s l.at (length l.yielded);
    }
