-- What the check leaves of two files: the verdict that refuses them, or both circuits, loaded.
use Rattle.std.specs.Prelude.{ℕ, ◌≤◌, ◌≡◌, Bool, List, Result, Ok, Err}
use Rattle.netlist.specs.declared.File.TheVariants as file
use Rattle.netlist.specs.declared.Limits.{Limits}
use Rattle.netlist.specs.declared.Counts.{Counts}
use Rattle.netlist.specs.Commands.{stage_file}
use Rattle.netlist.specs.Reading.{Places, readable, read_file}
use Rattle.netlist.specs.Content.{reference_of}
use Rattle.verdict.specs.declared.Verdict.{Verdict}
use Rattle.verdict.specs.declared.WordOrder.{WordOrder}
use Rattle.verdict.specs.Verdicts.{accepted}
use Rattle.check_spec.specs.Content.{content_of, wired, Files}
use Rattle.check_spec.specs.Verdicts.{verdict_on}
use Rattle.check_spec.specs.Loaded.{stage_view}
use Rattle.circuit.specs.Stage.{stage_in}
use Rattle.circuit.specs.Reference.{reference_in}
use Rattle.check_word.specs.Loaded.{BothLoaded}
use Rattle.check_files.specs.declared.Sizes.{Sizes}

-- a file reads, and the circuit that was loaded is what it holds; in that of a stage file registers are wires
pub record StageFrom (registers : Bool) (most : Limits) (s : List ℕ) (c : Counts) (code : List ℕ) : Type 0 where
  pub places : Places
  pub reads : read_file (stage_file registers) most s ≡ readable places
  pub content : stage_in c code ≡ stage_view (wired (content_of (stage_file registers) most s))

pub record ReferenceFrom (most : Limits) (t : List ℕ) (sizes : Counts) (reference : List ℕ) : Type 0 where
  pub places : Places
  pub reads : read_file file.Reference most t ≡ readable places
  pub content : reference_in sizes reference ≡ reference_of t places

-- two files with their circuits as the checks left them
pub record PairLoaded (f : Files) (c : Counts) (code : List ℕ) (sizes : Counts) (reference : List ℕ) : Type 0 where
  pub both : BothLoaded c code sizes reference
  pub stage_from_holds : StageFrom f.registers f.stage_most f.stage c code
  pub reference_from : ReferenceFrom f.reference_most f.reference sizes reference

abbrev pub Judgement : Type 0
Judgement = Result Sizes Verdict

abbrev pub verdict_of : Judgement → Verdict
verdict_of (Err v) = v
verdict_of (Ok sizes) = accepted

pub record JudgedAs (order : WordOrder) (f : Files) (j : Judgement) (code reference : List ℕ) : Type 0 where
  pub verdict_is : verdict_of j ≡ verdict_on order f
  pub refuses : (v : Verdict) → j ≡ Err v → (1 ≤ v.number) × (v.file ≤ 2)
  pub loaded : (sizes : Sizes) → j ≡ Ok sizes → PairLoaded f sizes.stage code sizes.reference reference
