-- `text_scan::same` meets its contract. Assumes nothing.
use mathlib.Core.Path.{◌∙◌}
use Rattle.text_scan.proofs.Pieces.{same_pointwise}
use Rattle.text_scan.proofs.same.Goals as goal

pub returns : goal.returns
returns c = c.eq.ensures ∙ same_pointwise c.args.a.now c.args.b.now
