-- `write_cases::put_row` meets its contract. Assumes nothing.
use native.Mathlib.Omega.{arith}
use Rattle.write_lines.proofs.Within.{within_one, within-++, starts_with, text_fits}
use Rattle.write_cases.proofs.Numbers.{buffer_then}
use Rattle.write_cases.proofs.put_row.Goals as goal

pub returns : goal.returns
returns c =
    let start = c.put_start-at.ensures in
    let row = c.put_buffer-end.ensures in
    let newline = within_one c.put_char.ensures in
    let whole = within-++ start (buffer_then c.args.row.now row newline) in
    record { line_after = starts_with whole.put (omega (arith, whole.within)); fits = text_fits whole.put (omega (arith, whole.within)) }
