-- `check_word::still_high_gate` meets its contract. Assumes nothing.
use Rattle.circuit.proofs.Settling.{low_row}
use Rattle.check_word.proofs.still_high_gate.Goals as goal

pub settle_word-requires : goal.settle_word-requires
settle_word-requires c = (c.requires.0, c.requires.1, low_row c.args.counts c.requires.0.within)
