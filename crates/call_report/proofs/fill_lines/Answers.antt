-- `call_report::fill_lines` meets its contract: the lines by names are those of the stage. Assumes nothing.
use native.Mathlib.Omega.{arith}
use mathlib.Core.Path.{sym, ap, subst, ◌∙◌}
use lib.Pow.{pow_mono}
use Rattle.netlist.specs.Reading.{Ascending}
use Rattle.verdict.specs.Levels.{sum}
use Rattle.verdict.proofs.Names.{names_rise}
use Rattle.circuit.specs.Stage.{stage_in}
use Rattle.call_report.specs.Report.{padded}
use Rattle.call_report.proofs.Lines.{lines_by_holds}
use Rattle.call_report.proofs.fill_lines.Goals as goal

pub write_lines-requires : goal.write_lines-requires
write_lines-requires c =
    let inputs_in = c.requires.0.within.inputs_in in (
      inputs_in,
      subst (Ascending _ 0) (sym c.requires.2) (names_rise c.args.order (stage_in c.args.counts c.args.code.now)),
      omega (arith, c.count_words.ensures.long, pow_mono inputs_in),
      c.requires.3,
      c.requires.4,
    )

pub returns : goal.returns
returns c =
    let written = c.write_lines.ensures in
    let named = lines_by_holds c.args.order (stage_in c.args.counts c.args.code.now) _ _ c.requires.2 c.count_words.ensures.high in
    (written.0 ∙ ap sum named, written.1 ∙ ap padded named)
