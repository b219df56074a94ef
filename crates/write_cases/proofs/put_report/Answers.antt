-- `write_cases::put_report` meets its contract. Assumes nothing.
use native.Mathlib.Omega.{arith}
use Rattle.write_lines.proofs.Within.{within_one, within-++, starts_with, text_fits}
use Rattle.write_cases.proofs.put_report.Goals as goal

pub returns : goal.returns
returns c =
    let number = c.put_number-at.ensures in
    let report = c.put_report-end.ensures in
    let newline = within_one c.put_char.ensures in
    let whole = within-++ number (within-++ report newline) in
    record { line_after = starts_with whole.put (omega (arith, whole.within)); fits = text_fits whole.put (omega (arith, whole.within)) }
