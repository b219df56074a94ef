-- `write_lines::put_report_lines` meets its contract. Assumes nothing.
use native.Mathlib.Omega.{arith}
use Rattle.write_decimal.proofs.Decimal.{next-++}
use Rattle.write_lines.proofs.Within.{starts_with, text_fits}
use Rattle.write_lines.proofs.put_report_lines.Goals as goal

pub returns : goal.returns
returns c =
    let report = c.put_report-last.ensures in
    let newline = c.put_char.ensures in
    let whole = next-++ report.put newline in
    record { buffer_after = starts_with whole (omega (arith, newline.end)); fits = text_fits whole (omega (arith, newline.end)) }
