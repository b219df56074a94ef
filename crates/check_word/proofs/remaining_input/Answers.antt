-- `check_word::remaining_input` meets its contract. Assumes nothing.
use Rattle.std.proofs.Common.{rules}
use Rattle.circuit.proofs.Settling.{low_row}
use Rattle.check_word.proofs.Falling.{remaining_word}
use Rattle.check_word.proofs.remaining_input.Goals as goal

pub settle_word-requires : goal.settle_word-requires
settle_word-requires c = (c.requires.0, c.requires.1, low_row c.args.counts c.requires.0.within)

pub returns : goal.returns
returns c = c.least.ensures _ (λ j r h post.
    let e = remaining_word c.args.counts c.args.code.now _ c.settle_word.ensures.row c.args.w c.settle_word.ensures.settled j in search (rules, e))
