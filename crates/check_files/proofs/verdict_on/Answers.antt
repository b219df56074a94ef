-- `check_files::verdict_on` meets its contract. Assumes nothing.
use native.Mathlib.Omega.{arith}
use mathlib.Core.Path.{sym, ap, ◌∙◌}
use Rattle.std.proofs.Common.{rules}
use Rattle.netlist.specs.Reading.{stage_limits, reference_limits}
use Rattle.netlist.proofs.Bounds.{no_more}
use Rattle.check_files.specs.Judgement.{verdict_of}
use Rattle.check_files.proofs.Files.{within, answered}
use Rattle.check_files.proofs.verdict_on.Goals as goal

pub check_loading-requires : goal.check_loading-requires
check_loading-requires c =
    (no_more _ stage_limits c.stage_limits.ensures, no_more _ reference_limits c.reference_limits.ensures, omega arith, omega arith)

pub returns-in-Ok : goal.returns-in-Ok
returns-in-Ok c =
    let same = within c.args.registers c.args.stage.now c.args.reference.now c.stage_limits.ensures c.reference_limits.ensures in
    answered c.args.order same _ (search rules ∙ sym (ap verdict_of c.in-Ok.is) ∙ c.check_loading.ensures.verdict_is)

pub returns-in-Err : goal.returns-in-Err
returns-in-Err c =
    let same = within c.args.registers c.args.stage.now c.args.reference.now c.stage_limits.ensures c.reference_limits.ensures in
    answered c.args.order same _ (sym (ap verdict_of c.in-Err.is) ∙ c.check_loading.ensures.verdict_is)
