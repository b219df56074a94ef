-- `text_scan::is_name` meets its contract. Assumes nothing.
use native.Mathlib.Omega.{arith}
use mathlib.Core.Path.{◌∙◌}
use Rattle.text_scan.proofs.Pieces.{name_short, name_long, name_fits}
use Rattle.text_scan.proofs.is_name.Goals as goal

pub returns-then-n-lt1 : goal.returns-then-n-lt1
returns-then-n-lt1 c = name_short c.args.most c.args.s.now (omega arith)

pub returns-then-most-n : goal.returns-then-most-n
returns-then-most-n c = name_long c.args.most c.args.s.now (omega arith) (omega arith)

pub returns : goal.returns
returns c =
    c.is_plain.ensures ∙ name_fits c.args.most c.args.s.now (omega arith) (omega arith)
