-- `call_report::report_stage` meets its contract: the names are listed, and the lines are those of the stage. Assumes nothing.
use native.Mathlib.Omega.{arith}
use mathlib.Core.Path.{refl, ap, ◌∙◌}
use Rattle.verdict.specs.declared.Verdict.{Verdict}
use Rattle.report_spec.specs.declared.Report.{Report}
use lib.ListN.{length}
use Rattle.circuit.specs.Stage.{stage_in}
use Rattle.words.proofs.Listing.{listed_start}
use Rattle.call_report.proofs.Lines.{names_few}
use Rattle.call_report.proofs.Reporting.{stage_report_holds}
use Rattle.call_report.proofs.report_stage.Goals as goal

pub fill_lines-total-requires : goal.fill_lines-total-requires
fill_lines-total-requires c =
    let start = listed_start c.list_names-count.ensures in
    let few = names_few c.args.order (stage_in c.args.counts c.args.code.now) c.requires.0.within.inputs_in in
    (c.requires.0, c.requires.1, start, omega (arith, ap length start, few), refl)

pub returns : goal.returns
returns c =
    ap {B = Report} (λ (v : Verdict). record { verdict = v; words = c.list_names-count.result; total = c.fill_lines-total.result; lines = c.fill_lines-total.new.lines; names = c.list_names-count.new.list }) c.accepted.ensures
    ∙ stage_report_holds c.args.order (stage_in c.args.counts c.args.code.now) c.list_names-count.ensures c.fill_lines-total.ensures
