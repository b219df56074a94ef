-- The verdict on two files, and the settled-row call.
use Rattle.std.specs.Prelude.{ℕ, ◌*◌, true, cond, List, [], ◌∷◌, ◌++◌, map, length, get_or, take, eqb, ltb}
use Rattle.gates.specs.Cell.{bit}
use Rattle.runs.specs.Row.{Row, low}
use Rattle.netlist.specs.Commands.{stage_file}
use Rattle.netlist.specs.declared.File.{File}
use Rattle.netlist.specs.declared.Limits.{Limits}
use Rattle.netlist.specs.declared.File.TheVariants.{Stage, Pipeline, Reference}
use Rattle.netlist.specs.Reading.{Reading, refused, readable, read_file, stage_limits}
use Rattle.verdict.specs.declared.Verdict.{Verdict}
use Rattle.verdict.specs.declared.WordOrder.{WordOrder}
use Rattle.check_spec.specs.Cases.{Check, case, judge}
use Rattle.check_spec.specs.Lists.{numbers}
use Rattle.check_spec.specs.Content.{Content, Files, raw_in, reference_in, content_of}
use Rattle.check_spec.specs.Rows.{net_of, risen}
use Rattle.check_spec.specs.Checks.{checks, row_checks}

abbrev pub file_number : File → ℕ
file_number Stage = 1
file_number Pipeline = 1
file_number Reference = 2

-- the case that reading leaves: a refused file's, or none
unfoldable pub refusal : File → Reading → Check
refusal f (refused number at) = case number (file_number f) at 0 true ∷ []
refusal f (readable p) = []

abbrev pub reading : File → Limits → List ℕ → Check
reading f most bytes = refusal f (read_file f most bytes)

-- "the stage is read first, then the reference", then the checks follow in order
abbrev pub checks_on : WordOrder → Files → List Check
checks_on order f =
    reading (stage_file f.registers) f.stage_most f.stage ∷
    reading Reference f.reference_most f.reference ∷
    checks order (raw_in f) (reference_in f)

abbrev pub verdict_on : WordOrder → Files → Verdict
verdict_on order f = judge (checks_on order f)

-- ---- the settled-row call

-- the levels that some bytes stand for, a byte for each net: high but for 0. Of a row before the call they are the rails that it calls for
abbrev pub rails_in : List ℕ → Row
rails_in bytes k = ltb 0 (get_or bytes k 0)

-- the stage that is settled
abbrev pub row_stage : List ℕ → Content
row_stage stage = content_of Stage (stage_limits) stage

abbrev pub row_checks_on : List ℕ → List ℕ → List Check
row_checks_on stage row = reading Stage (stage_limits) stage ∷ row_checks (row_stage stage) row

abbrev pub row_verdict : List ℕ → List ℕ → Verdict
row_verdict stage row = judge (row_checks_on stage row)

-- the input bytes stay and the gates' bytes are their settled levels
unfoldable pub settled_bytes : Content → List ℕ → List ℕ
settled_bytes s row =
    let settled = risen (net_of s) (rails_in row) low in
    take (2 * s.inputs) row ++ map (λ k. bit (settled k)) (numbers (2 * s.inputs) (length s.gates))

-- the row after the call: a refusal leaves it as it was
unfoldable pub row_after : List ℕ → List ℕ → List ℕ
row_after stage row =
    let settled = settled_bytes (row_stage stage) row in
    cond (eqb (row_verdict stage row).number 0) settled row
