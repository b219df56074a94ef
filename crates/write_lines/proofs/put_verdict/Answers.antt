-- `write_lines::put_verdict` meets its contract. Assumes nothing.
use Rattle.write_lines.proofs.Within.{within-++}
use Rattle.write_lines.proofs.put_verdict.Goals as goal

pub returns : goal.returns
returns c =
    let number = c.put_number-file.ensures in
    let file = c.put_next-place.ensures in
    let place = c.put_next-word.ensures in
    let word = c.put_next.ensures in
    within-++ number (within-++ file (within-++ place word))
