-- `text_read::put_outputs` meets its contract. The loop's invariant: the names so far are put. Assumes nothing.
use lib.ListN.{length}
use Rattle.text_spec.specs.Characters.{comma}
use Rattle.text_spec.specs.Lines.{split}
use Rattle.text_names.specs.Tailed.{drivers_of}
use Rattle.text_read.specs.Parts.{outputs_put}
use Rattle.text_read.proofs.Making.{OutputsTo}
use Rattle.text_read.proofs.put_outputs.Given as goal

abbrev pub invariant-loop-name : goal.invariant-loop-name
invariant-loop-name l =
    record {
      can : (goal.iterator-loop-name).can_next l.name-iterator;
      finite : (goal.iterator-loop-name).is_finite l.name-iterator;
      names : OutputsTo (drivers_of l.s) (outputs_put (split comma l.line)) l.initial.work l.at l.work (length l.yielded) l.put;
    }
