-- `call_join::uncared_named` meets its contract. The loop's invariant: nothing is found under the names before name k. Assumes nothing.
use Rattle.netlist.specs.Content.{Stage, Reference}
use Rattle.check_words.proofs.Sweeping.{SweptTo}
use Rattle.call_join.specs.Steps.{uncared_under, NamesUncared}
use Rattle.call_join.proofs.uncared_named.Given as goal

abbrev pub invariant-loop-name : goal.invariant-loop-name
invariant-loop-name l =
    (function : Reference) (second : Stage) → NamesUncared l.inputs function second l.masks → SweptTo 23 0 (uncared_under l.order l.inputs function second) l.list l.name-index
