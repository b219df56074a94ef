-- `write_joined::stage_length` meets its contract. Assumes nothing.
use mathlib.Core.Path.{sym}
use Rattle.write_joined.proofs.Whole.{stage_long_in}
use Rattle.write_joined.proofs.stage_length.Goals as goal

pub returns : goal.returns
returns c code1 code2 = sym (stage_long_in c.args.counts1 code1 c.args.counts2 code2)
