-- The verdict of what the checks find, and the settled-row call.
use Rattle.std.specs.Prelude.{ℕ, ◌*◌, List, take, Ok, Err}
use Rattle.netlist.specs.declared.File.TheVariants as file
use Rattle.netlist.specs.declared.Limits.{Limits}
use Rattle.netlist.specs.Reading.{Reading, refused, readable, read_file, stage_limits}
use Rattle.netlist.specs.Content.{Stage, stage_of}
use Rattle.verdict.specs.declared.Verdict.{Verdict}
pub use Rattle.verdict.specs.FourNumbers.{accepted}
use Rattle.verdict.specs.FourNumbers.{Finding}
use Rattle.verdict.specs.Rows.{settled}
use Rattle.verdict.specs.Checks.{verdict, first_fault, row_checks}

unfoldable pub verdict_of : Finding → Verdict
verdict_of (Err v) = v
verdict_of (Ok _) = accepted

-- ---- the settled-row call

-- its verdict, and the row after it
pub record RowAnswer : Type 0 where
  pub verdict : Verdict
  pub row : List ℕ

abbrev pub answer_with : Verdict → List ℕ → RowAnswer
answer_with v row = record { verdict = v; row = row }

-- a refusal leaves the row as it was; else the input bytes stay and the gates' bytes are their settled levels
unfoldable pub settle_unless : Finding → Stage → List ℕ → RowAnswer
settle_unless (Err v) s row = answer_with v row
settle_unless (Ok _) s row = answer_with accepted (settled s.gates (take (2 * s.inputs) row))

unfoldable pub settle_reading : List ℕ → List ℕ → Reading → RowAnswer
settle_reading bytes row (refused number at) = answer_with (verdict number 1 at 0) row
settle_reading bytes row (readable places) =
    let s = stage_of bytes places in
    settle_unless (first_fault (row_checks s row)) s row

unfoldable pub settled_row_within : Limits → List ℕ → List ℕ → RowAnswer
settled_row_within most stage row = settle_reading stage row (read_file file.Stage most stage)

abbrev pub settled_row : List ℕ → List ℕ → RowAnswer
settled_row = settled_row_within stage_limits
