-- The switching report as the code makes it, of a stage that was loaded; the law that it is the one defined is in proofs/Reporting.
use Rattle.std.specs.Prelude.{ℕ, ◌^◌, List, [], map}
use Rattle.netlist.specs.Reading.{stage_limits}
use Rattle.netlist.specs.Content.{Stage}
use Rattle.verdict.specs.declared.Verdict.{Verdict}
use Rattle.verdict.specs.declared.WordOrder.{WordOrder}
use Rattle.verdict.specs.Levels.{sum}
use Rattle.verdict.specs.Words.{spelled, names}
use Rattle.report_spec.specs.High.{gates_high}
use Rattle.report_spec.specs.declared.Report.{Report}
pub use Rattle.report_spec.specs.Report.{padded, report_of}

-- the words in the order of their names
abbrev pub by_name : WordOrder → Stage → List ℕ
by_name order s = map (spelled order s.inputs) (names order s)

-- a line for each word, in that order
abbrev pub lines : WordOrder → Stage → List ℕ
lines order s = map (gates_high s) (by_name order s)

-- "the total equals the sum of the printed lines"
abbrev pub total : WordOrder → Stage → ℕ
total order s = sum (lines order s)

-- ---- the report of two files

-- room for a line of each word of the most inputs
abbrev pub most_lines : ℕ
most_lines = 2 ^ stage_limits.inputs

-- of a refused pair, and of a stage
abbrev pub refused_report : Verdict → Report
refused_report v = report_of v [] []

abbrev pub stage_report : WordOrder → Verdict → Stage → Report
stage_report order v s = report_of v (names order s) (lines order s)
