-- `words::spell_word` meets its contract. The loop's invariant: the rails before those of input i are written, and those of `rest` are to
-- come. Assumes nothing.
use Rattle.words.proofs.Spelling.{SpeltTo}
use Rattle.words.proofs.spell_word.Given as goal

abbrev pub invariant-loop-i : goal.invariant-loop-i
invariant-loop-i l = SpeltTo l.fn.counts l.w l.initial.row l.row l.rest l.i
