-- `words::list_words` meets its contract. The loop's invariant: the first names have become the words that they spell. Assumes nothing.
use mathlib.Core.Path.{◌≡◌}
use mathlib.Core.List.{◌++◌, map}
use lib.ListN.{take, drop}
use Rattle.verdict.specs.Words.{spelled}
use Rattle.words.proofs.list_words.Given as goal

abbrev pub invariant-loop-i : goal.invariant-loop-i
invariant-loop-i l = l.list ≡ map (spelled l.order l.fn.counts.inputs) (take l.i l.initial.list) ++ drop l.i l.initial.list
