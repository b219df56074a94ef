-- `check_words::next_named` meets its contract. The loop's invariant: the mask names no word of the list from place `from` on and before place k.
-- Assumes nothing.
use Rattle.check_words.specs.Sweeps.{UnnamedFrom}
use Rattle.check_words.proofs.next_named.Given as goal

abbrev pub invariant-loop-k : goal.invariant-loop-k
invariant-loop-k l = UnnamedFrom l.mask l.list l.from l.k
