-- `write_lines::put_word` meets its contract. Assumes nothing.
use Rattle.write_lines.proofs.Within.{within_one, within-++}
use Rattle.write_lines.proofs.put_word.Goals as goal

pub returns : goal.returns
returns c =
    let word = c.put_small-end.ensures in
    let between = within_one c.put_char-next.ensures in
    let high = c.put_small-last.ensures in
    let after = within_one c.put_char.ensures in
    within-++ word (within-++ between (within-++ high after))
