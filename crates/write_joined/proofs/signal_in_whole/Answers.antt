-- `write_joined::signal_in_whole` meets its contract. Assumes nothing.
use native.Mathlib.Omega.{arith}
use mathlib.Core.Path.{◌∙◌}
use Rattle.write_joined.proofs.Moving.{signal_tied, signal_follows}
use Rattle.write_joined.proofs.signal_in_whole.Goals as goal

pub returns-then-n-inputs : goal.returns-then-n-inputs
returns-then-n-inputs c = c.signal_of.ensures.is ∙ signal_tied c.args.place.counts c.args.place.first.now c.args.place.moved c.args.signal (omega arith) c.requires.1

pub returns : goal.returns
returns c = signal_follows c.args.place.counts c.args.place.first.now c.args.place.moved c.args.signal (omega arith)
