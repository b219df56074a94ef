-- `text_scan::Lines` yields the lines of its text: `next` takes the first off. Assumes nothing.
use native.Mathlib.Omega.{arith}
use mathlib.Core.Path.{ap}
use lib.ListN.{length}
use Rattle.std.proofs.Common.{rules}
use Rattle.text_scan.proofs.Pieces.{lines_none, lines_step}
use Rattle.text_scan.proofs.LinesIterator.next.Goals as goal

pub returns-then-self-n-clause-steps : goal.returns-then-self-n-clause-steps
returns-then-self-n-clause-steps c =
    let e = lines_none c.args.self.now.0.now (omega (arith, c.piece_len-n.ensures.0)) in
    (e, e)

pub returns-clause-steps : goal.returns-clause-steps
returns-clause-steps c = lines_step c.args.self.now.0.now c.piece_len-n.result c.piece_len-n.ensures.0 (omega arith)

pub returns-clause-goes : goal.returns-clause-goes
returns-clause-goes c =
    let shorter = ap length (lines_step c.args.self.now.0.now c.piece_len-n.result c.piece_len-n.ensures.0 (omega arith)) in
    search rules
