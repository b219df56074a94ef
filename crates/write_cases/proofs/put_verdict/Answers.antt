-- `write_cases::put_verdict` meets its contract. Assumes nothing.
use native.Mathlib.Omega.{arith}
use Rattle.write_lines.proofs.Within.{within_one, within-++, starts_with, text_fits}
use Rattle.write_cases.proofs.put_verdict.Goals as goal

pub returns : goal.returns
returns c =
    let whole = within-++ c.put_start-end.ensures (within_one c.put_char.ensures) in
    record { line_after = starts_with whole.put (omega (arith, whole.within)); fits = text_fits whole.put (omega (arith, whole.within)) }
