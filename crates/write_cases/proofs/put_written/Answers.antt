-- `write_cases::put_written` meets its contract. Assumes nothing.
use native.Mathlib.Omega.{arith}
use Rattle.write_lines.proofs.Within.{within_one, within-++, starts_with, text_fits}
use Rattle.write_cases.proofs.Numbers.{buffer_then}
use Rattle.write_cases.proofs.put_written.Goals as goal

pub returns : goal.returns
returns c =
    let start = c.put_start-at.ensures in
    let count = c.put_next-next.ensures in
    let buffer = c.put_buffer-end.ensures in
    let newline = within_one c.put_char.ensures in
    let whole = within-++ start (within-++ count (buffer_then c.args.buffer.now buffer newline)) in
    record { line_after = starts_with whole.put (omega (arith, whole.within)); fits = text_fits whole.put (omega (arith, whole.within)) }
