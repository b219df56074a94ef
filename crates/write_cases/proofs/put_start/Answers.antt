-- `write_cases::put_start` meets its contract. Assumes nothing.
use Rattle.write_lines.proofs.Within.{within-++}
use Rattle.write_cases.proofs.put_start.Goals as goal

pub returns : goal.returns
returns c = within-++ c.put_number-at.ensures c.put_verdict.ensures
