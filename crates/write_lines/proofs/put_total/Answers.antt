-- `write_lines::put_total` meets its contract. Assumes nothing.
use mathlib.Core.Path.{refl}
use Rattle.write_lines.proofs.Within.{within, within-++}
use borrow.Author.Rules.{rules}
use Rattle.write_lines.proofs.put_total.Goals as goal

pub returns : goal.returns
returns c = within-++ (within 5 (record { put = c.put_bytes.ensures; end = refl }) (search rules)) c.put_next.ensures
