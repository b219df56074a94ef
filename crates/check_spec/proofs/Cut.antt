-- Cutting a longer file at what a program reads of it changes nothing that is read of it, and so no verdict and no settled row.
-- Assumes nothing.
use Prim.Native.Nat.{ℕ, ◌≤◌}
use native.Mathlib.Omega.{arith}
use mathlib.Core.Path.{◌≡◌, refl, ap, ◌∙◌}
use mathlib.Core.List.{List, ◌∷◌}
use lib.ListN.{take}
use lib.Seq.{take_all}
use Rattle.netlist.specs.declared.File.{File}
use Rattle.netlist.specs.declared.File.TheVariants.{Stage, Reference}
use Rattle.netlist.specs.declared.Limits.{Limits}
use Rattle.netlist.specs.Commands.{stage_file, own_commands, command_table, form_in}
use Rattle.netlist.specs.Reading.{Places, Reading, refused, readable, read_file, stage_limits}
use Rattle.netlist.specs.Read.{farthest, most_bytes}
use Rattle.netlist.proofs.Encoding.{width_gate}
use Rattle.netlist.proofs.Readable.{readable_length}
use Rattle.netlist.proofs.Cut.{read_file_take}
use Rattle.verdict.specs.declared.WordOrder.{WordOrder}
use Rattle.check_spec.specs.Cases.{judge}
use Rattle.check_spec.specs.Content.{Files, content_at, content_of, files}
use Rattle.check_spec.specs.Checks.{checks, row_checks}
use Rattle.check_spec.specs.Verdicts.{refusal, reading, verdict_on, row_verdict, row_after}

-- limits within which a program reads far enough
module _ (f : File) (most : Limits) (far : farthest f most ≤ most_bytes) (s : List ℕ) where
  -- a readable file is not cut
  pub read_short : (p : Places) → read_file f most s ≡ readable p → take most_bytes s ≡ s
  read_short p e = take_all most_bytes s (omega (arith, far, width_gate f, readable_length f most s p e))

  pub reading_cut : reading f most (take most_bytes s) ≡ reading f most s
  reading_cut = ap (refusal f) (read_file_take f most s most_bytes far)

  pub content_cut : content_of f most (take most_bytes s) ≡ content_of f most s
  unfolding content_at
  content_cut = ap (content_at f (take most_bytes s)) (read_file_take f most s most_bytes far) ∙ go (read_file f most s) refl
    where
      go : (x : Reading) → read_file f most s ≡ x → content_at f (take most_bytes s) (read_file f most s) ≡ content_at f s (read_file f most s)
      go (refused number at) e = rw e
      go (readable p) e = ap (λ (b : List ℕ). content_at f b (read_file f most s)) (read_short p e)

abbrev pub cut_files : Files → Files
cut_files f = record { stage = take most_bytes f.stage; reference = take most_bytes f.reference; registers = f.registers; stage_most = f.stage_most; reference_most = f.reference_most }

pub verdict_cut : (order : WordOrder) (f : Files) → farthest (stage_file f.registers) f.stage_most ≤ most_bytes → farthest Reference f.reference_most ≤ most_bytes → verdict_on order (cut_files f) ≡ verdict_on order f
verdict_cut order f far far' i =
    judge (reading_cut (stage_file f.registers) f.stage_most far f.stage i ∷ reading_cut Reference f.reference_most far' f.reference i ∷
    checks order (content_cut (stage_file f.registers) f.stage_most far f.stage i) (content_cut Reference f.reference_most far' f.reference i))

-- of the check itself, and of the settled-row call
pub check_cut : (order : WordOrder) (s r : List ℕ) → verdict_on order (files (take most_bytes s) (take most_bytes r)) ≡ verdict_on order (files s r)
unfolding command_table own_commands form_in
check_cut order s r = verdict_cut order (files s r) (omega arith) (omega arith)

pub row_cut : (s row : List ℕ) → (row_verdict (take most_bytes s) row ≡ row_verdict s row) × (row_after (take most_bytes s) row ≡ row_after s row)
unfolding command_table own_commands form_in row_after
row_cut s row =
    let far : farthest Stage stage_limits ≤ most_bytes = omega arith in
    let same : row_verdict (take most_bytes s) row ≡ row_verdict s row = λ i. judge (reading_cut Stage stage_limits far s i ∷ row_checks (content_cut Stage stage_limits far s i) row) in
    (same, rw (same, content_cut Stage stage_limits far s))
