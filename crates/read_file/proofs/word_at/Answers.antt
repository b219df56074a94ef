-- `read_file::word_at` meets its contract: where it answers so, every test was passed. Assumes nothing.
use native.Mathlib.Omega.{arith}
use borrow.Author.Tests.{ltb-true}
use Rattle.netlist.proofs.Encoding.{clash}
use Rattle.read_file.proofs.word_at.Goals as goal

pub returns-then-s-at-lt3 : goal.returns-then-s-at-lt3
returns-then-s-at-lt3 c = λ e. absurd (clash (cc))

pub returns-then-s-at-ne6 : goal.returns-then-s-at-ne6
returns-then-s-at-ne6 c = λ e. absurd (clash (cc))

pub returns-then-w-floor : goal.returns-then-w-floor
returns-then-w-floor c = λ e. absurd (clash (cc))

pub returns : goal.returns
returns c =
    λ e.
    record {
      room = omega (arith, c.if-s-at-lt3.false);
      command = c.if-s-at-ne6.false;
      high = omega (arith, c.operand-w.ensures, c.if-w-floor.false);
      low = omega (arith, c.operand-w.ensures, ltb-true c.operand-w.result c.args.below e);
    }
