-- `write_cases::put_joined` meets its contract. Assumes nothing.
use native.Mathlib.Omega.{arith}
use Rattle.write_lines.proofs.Within.{within_one, within-++, starts_with, text_fits}
use Rattle.write_cases.proofs.Numbers.{buffer_then}
use Rattle.write_cases.proofs.put_joined.Goals as goal

pub returns : goal.returns
returns c =
    let start = c.put_start-first.ensures in
    let first = c.put_next-second.ensures in
    let second = c.put_next-third.ensures in
    let newline = within_one c.put_char.ensures in
    let reference = buffer_then c.args.reference.now c.put_buffer-end.ensures newline in
    let buffers = buffer_then c.args.stage.now c.put_buffer-fourth.ensures reference in
    let whole = within-++ start (within-++ first (within-++ second buffers)) in
    record { line_after = starts_with whole.put (omega (arith, whole.within)); fits = text_fits whole.put (omega (arith, whole.within)) }
