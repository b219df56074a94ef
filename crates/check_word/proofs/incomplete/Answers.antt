-- `check_word::incomplete` meets its contract. Assumes nothing.
use Rattle.circuit.proofs.Settling.{low_row}
use Rattle.check_word.proofs.Nulling.{null_row, null_word}
use Rattle.check_word.proofs.incomplete.Goals as goal

pub spell_word-requires : goal.spell_word-requires
spell_word-requires c = low_row c.args.counts c.requires.0.within

pub settle-requires : goal.settle-requires
settle-requires c =
    (c.requires.0, c.requires.1, null_row c.args.counts _ c.spell_word.ensures.row c.args.i c.requires.2)

pub returns : goal.returns
returns c =
    let s = c.spell_word in
    null_word c.args.counts _ s.ensures.row c.args.i c.requires.2 c.args.code.now c.args.w s.ensures.rails _
    c.settle.ensures.settled _ c.all_data.ensures
