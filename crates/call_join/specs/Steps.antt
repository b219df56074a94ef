-- What the functions of the join hand to one another.
use Rattle.std.specs.Prelude.{ℕ, ◌/◌, ◌%◌, ◌^◌, ◌≤◌, ◌<◌, ◌≡◌, Bool, not, List, [], ◌∷◌, length, get_or, Option}
use Rattle.netlist.specs.declared.Counts.{Counts}
use Rattle.netlist.specs.Content.{Stage, Reference}
use Rattle.verdict.specs.declared.Verdict.{Verdict}
use Rattle.verdict.specs.declared.WordOrder.{WordOrder}
use Rattle.verdict.specs.Words.{words, bits_of, word_of, spelled, is_in}
use Rattle.verdict.specs.Answers.{answer, values_at}
use Rattle.verdict.specs.Checks.{first}
use Rattle.verdict.specs.Written.{written}
use Rattle.check_spec.specs.Content as content
use Rattle.check_spec.specs.Content.{Files}
use Rattle.check_spec.specs.Loaded.{from_stage, from_reference}
use Rattle.check_spec.specs.Writing.{leaving}
use Rattle.join_spec.specs.declared.JoinAnswer.{JoinAnswer}
use Rattle.circuit.specs.Stage.{stage_in, StageLoaded}
use Rattle.circuit.specs.Reference.{signals_in, reference_in, ReferenceLoaded}
use Rattle.lane_cells.specs.Lane.{lane, lane_of}
use Rattle.call_join.specs.declared.FileCounts.{FileCounts}

-- the answer to word w as a word: output j is bit j
abbrev pub answer_word : Reference → ℕ → ℕ
answer_word r w = word_of (answer r (bits_of r.inputs w))

-- the same in word j of a block, by the values of the reference's signals there
abbrev pub answer_in : Counts → List ℕ → List ℕ → ℕ → ℕ
answer_in sizes reference values j = word_of (values_at (lane_of j values) (signals_in sizes reference))

-- whether an answer is no word of a stage
abbrev pub uncared_for : Stage → ℕ → Bool
uncared_for second answered = not (is_in answered (words second))

-- what 23 finds under a name, by the number of the first part's inputs
abbrev pub uncared_under : WordOrder → ℕ → Reference → Stage → ℕ → Option ℕ
uncared_under order inputs function second name = first (λ i. uncared_for second (answer_word function (spelled order inputs name))) (0 ∷ [])

-- masks, one for each block of 64 words, name those words of so many inputs whose answer the second part does not care for
pub record NamesUncared (inputs : ℕ) (function : Reference) (second : Stage) (masks : List ℕ) : Type 0 where
  pub inside : (w : ℕ) → w < 2 ^ inputs → w / 64 < length masks
  pub named : (w : ℕ) → w < 2 ^ inputs → lane (w % 64) (get_or masks (w / 64) 0) ≡ uncared_for second (answer_word function w)

-- two parts in their flat forms, whose references have the counts of their stages
pub record PartsLoaded (counts : FileCounts) (code1 reference1 code2 reference2 : List ℕ) : Type 0 where
  pub stage1_loaded : StageLoaded counts.stage1 code1
  pub reference1_loaded : ReferenceLoaded counts.reference1 reference1
  pub stage2_loaded : StageLoaded counts.stage2 code2
  pub reference2_loaded : ReferenceLoaded counts.reference2 reference2
  pub few_words : counts.stage1.care ≤ 0x10000
  pub outputs : counts.reference1.outputs ≡ counts.stage1.outputs
  pub inputs : counts.reference2.inputs ≡ counts.stage2.inputs

-- they are what two pairs of files hold
pub record PartsHeld (counts : FileCounts) (code1 reference1 code2 reference2 : List ℕ) (one two : Files) : Type 0 where
  pub stage1_is : content.stage_in one ≡ from_stage (stage_in counts.stage1 code1)
  pub reference1_is : content.reference_in one ≡ from_reference (reference_in counts.reference1 reference1)
  pub stage2_is : content.stage_in two ≡ from_stage (stage_in counts.stage2 code2)
  pub reference2_is : content.reference_in two ≡ from_reference (reference_in counts.reference2 reference2)

abbrev pub answer_with : Verdict → ℕ → ℕ → JoinAnswer
answer_with v stage reference = record { verdict = v; stage_count = stage; reference_count = reference }

-- what the call leaves in the two buffers, by its verdict and the two files of the whole
pub record Leaves (v : Verdict) (f : Files) (r : JoinAnswer) (stage reference stage_left reference_left : List ℕ) : Type 0 where
  pub stage_left_holds : written (record { verdict = r.verdict; count = r.stage_count }) stage_left ≡ leaving v f.stage stage
  pub reference_left_holds : written (record { verdict = r.verdict; count = r.reference_count }) reference_left ≡ leaving v f.reference reference
