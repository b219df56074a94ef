-- `read_file::first_nameless` meets its contract: within reach nothing is found. Assumes nothing.
use mathlib.Core.Path.{refl, sym}
use Rattle.read_file.proofs.first_nameless.Goals as goal

pub returns-then-top-reach : goal.returns-then-top-reach
returns-then-top-reach c =
    sym (c.requires.2 _ (record { inputs_same = refl; countable = c.requires.0; far = rw c.reach.ensures at c.if-top-reach.true }))
