-- `text_names::find_rail` meets its contract. The loop's invariant: no rail of the names so far is the name. Assumes nothing.
use lib.ListN.{length}
use Rattle.text_spec.specs.Characters.{comma}
use Rattle.text_spec.specs.Lines.{split}
use Rattle.text_names.specs.Tailed.{tailed}
use Rattle.text_names.proofs.Places.{RailPlaces}
use Rattle.text_names.proofs.find_rail.Given as goal

abbrev pub invariant-loop-name : goal.invariant-loop-name
invariant-loop-name l =
    record {
      can : (goal.iterator-loop-name).can_next l.name-iterator;
      finite : (goal.iterator-loop-name).is_finite l.name-iterator;
      before : RailPlaces (tailed l.a l.t) (split comma l.s) (length l.yielded) l.k;
    }
