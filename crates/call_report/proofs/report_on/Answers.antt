-- `call_report::report_on` meets its contract: what the check left is the stage of the file. Assumes nothing.
use mathlib.Core.Bool.{false}
use mathlib.Core.Path.{sym, ap, ◌∙◌}
use Rattle.check_files.specs.Judgement.{verdict_of}
use Rattle.check_files.proofs.Files.{within, answered}
use Rattle.call_report.proofs.Reporting.{report_accepted, report_refused}
use Rattle.call_report.proofs.report_on.Goals as goal

pub report_stage-requires : goal.report_stage-requires
report_stage-requires c =
    let both = (c.check_loading-judgement.ensures.loaded _ c.in-Ok.is).both in
    (both.stage, both.ordered)

pub returns-in-Err : goal.returns-in-Err
returns-in-Err c =
    let j = c.check_loading-judgement.ensures in
    let is = c.in-Err.is in
    let same = within false c.args.stage.now c.args.reference.now c.stage_limits.ensures
    c.reference_limits.ensures in
    let d = report_refused c.args.order c.args.stage.now c.args.reference.now _
    (answered c.args.order same _ (sym (ap verdict_of is) ∙ j.verdict_is)) (j.refuses _ is).0 in
    record { report = d.0; means = d.1 }

pub returns-in-Ok : goal.returns-in-Ok
returns-in-Ok c =
    let j = c.check_loading-judgement.ensures in
    let is = c.in-Ok.is in
    let most = c.stage_limits.ensures in
    let same = within false c.args.stage.now c.args.reference.now most c.reference_limits.ensures in
    let d = report_accepted c.args.order c.args.stage.now c.args.reference.now
    (answered c.args.order same _ (sym (ap verdict_of is) ∙ j.verdict_is)) most (j.loaded _ is).stage_from_holds _ c.report_stage.ensures in
    record { report = d.0; means = d.1 }
