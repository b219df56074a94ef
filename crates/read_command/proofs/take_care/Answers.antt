-- `read_command::take_care` meets its contract, by its tests. Assumes nothing.
use Rattle.read_command.proofs.Care.{care_high, care_low, care_passed}
use Rattle.read_command.proofs.take_care.Goals as goal

pub returns-then-w-before : goal.returns-then-w-before
returns-then-w-before c =
    care_low _ _ c.args.before _ _ c.operand-w.ensures _ c.is_word.ensures c.if-is_word.true c.if-w-before.true

pub returns-then-is_word : goal.returns-then-is_word
returns-then-is_word c =
    care_passed _ _ c.args.before _ _ c.operand-w.ensures _ c.is_word.ensures c.if-is_word.true c.if-w-before.false

pub returns : goal.returns
returns c =
    care_high _ _ c.args.before _ _ c.operand-w.ensures _ c.is_word.ensures c.if-is_word.false
