-- `write_cases::put_buffer` meets its contract. Assumes nothing.
use Rattle.write_lines.proofs.Within.{within_one, within-++}
use Rattle.write_cases.proofs.put_buffer.Goals as goal

pub returns : goal.returns
returns c = within-++ (within_one c.put_char-first.ensures) c.put_bytes.ensures
