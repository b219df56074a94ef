-- `words::list_words` meets its contract. The loop's invariant: the first names have become the words that they spell. Assumes nothing.
use native.Mathlib.Omega.{arith}
use mathlib.Core.Path.{ap, ◌∙◌}
use lib.ListN.{length, set, get_or}
use Prim.Native.Nat.{◌<◌}
use Rattle.std.proofs.lemmas.List.{get_or_default}
use Rattle.std.proofs.lemmas.List.Edits.{map_over_more}
use Rattle.verdict.specs.Words.{spelled}
use Rattle.words.proofs.Listing.{listed_in}
use Rattle.words.proofs.Turning.{spelled_fits}
use Rattle.words.proofs.list_words.Goals as goal

pub overflow_cast-list : goal.overflow_cast-list
overflow_cast-list c =
    let name = get_or c.loop-i.list c.loop-i.i 0 in
    record { fits = omega (arith, c.word_of.ensures, spelled_fits c.args.order c.args.counts.inputs name c.requires.0.within.inputs_in (omega arith)) }

pub loop-i-preserved : goal.loop-i-preserved
loop-i-preserved c =
    let l = c.loop-i in
    let here : l.i < length l.list = omega (arith, listed_in c.list_names-count.ensures) in
    ap (set l.list l.i) c.word_of.ensures
    ∙ map_over_more (spelled c.args.order c.args.counts.inputs) c.list_names-count.new.list l.list l.i (get_or l.list l.i 0)
    (omega arith) l.invariant (get_or_default _ _ _ _ here)
