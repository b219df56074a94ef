-- `write_lines::put_report` meets its contract. Assumes nothing.
use native.Mathlib.Omega.{arith}
use Rattle.write_lines.proofs.Within.{within-++, within_same}
use Rattle.write_lines.proofs.Words.{accepted_text, refused_text}
use Rattle.write_lines.proofs.put_report.Goals as goal

pub returns-then-report-eq0 : goal.returns-then-report-eq0
returns-then-report-eq0 c =
    within_same (accepted_text c.args.between c.args.after c.args.report c.if-report-eq0.true) (omega (arith, c.well_formed))
    (within-++ c.put_words-end.ensures c.put_total.ensures)

pub returns : goal.returns
returns c =
    within_same (refused_text c.args.between c.args.after c.args.report c.if-report-eq0.false) (omega arith) c.put_verdict.ensures
