-- `words::list_names` meets its contract. The loop's invariant: the names before the next one are looked at, and those of words are listed.
-- Assumes nothing.
use Prim.Native.Nat.{◌^◌}
use Rattle.verdict.specs.Words.{names}
use Rattle.circuit.specs.Stage.{stage_in}
use Rattle.words.proofs.Listing.{ListedTo, spells_word}
use Rattle.words.proofs.list_names.Given as goal

abbrev pub invariant-loop-name : goal.invariant-loop-name
invariant-loop-name l =
    ListedTo (names l.order (stage_in l.counts l.code)) (spells_word l.order (stage_in l.counts l.code)) (2 ^ l.counts.inputs) l.initial.list l.count l.name
    l.list
