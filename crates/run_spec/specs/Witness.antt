-- The witness of a verdict on two files: a run that shows what the verdict says.
use Rattle.std.specs.Prelude.{ℕ, ◌+◌, ◌*◌, ◌≤◌, ◌≡◌, true, cond, List, [], ◌∷◌, length, get_or, eqb}
use Rattle.runs.specs.Row.{Row, low, only, after}
use Rattle.runs.specs.Net.{nets, rails_of_inputs}
use Rattle.runs.specs.Witness.{ShowsWrong, ShowsIncomplete, ShowsUnobservable}
use Rattle.runs.specs.FallWitness.{ShowsFallIncomplete, ShowsFallUnobservable, FullCycle, ShowsNeverSwitching}
use Rattle.verdict.specs.declared.Verdict.{Verdict}
use Rattle.verdict.specs.declared.WordOrder.{WordOrder}
use Rattle.check_spec.specs.Lists.{some}
use Rattle.check_spec.specs.Content.{Content, Files, stage_in}
use Rattle.check_spec.specs.Rows.{net_of}
use Rattle.check_spec.specs.Words.{rails_for, spelled, names, IsWord}
use Rattle.check_spec.specs.Verdicts.{verdict_on}
use Rattle.check_spec.specs.Demands.{BothRead, answer_to, Demand2, Demand3}
use Rattle.run_spec.specs.declared.RunAnswer.{RunAnswer}
use Rattle.run_spec.specs.Played.{Run, rise_by, fall_by, answering, Handed}

-- the numbers that speak of runs: accepted, wrong, incomplete, unobservable, and a gate that never switches; of these those that speak of a fall too
abbrev pub of_runs : List ℕ
of_runs = 0 ∷ 13 ∷ 14 ∷ 15 ∷ 20 ∷ 21 ∷ 32 ∷ []

abbrev pub of_falls : List ℕ
of_falls = 0 ∷ 20 ∷ 21 ∷ 32 ∷ []

-- what is held back where the verdict's number is one of these two: the rails of input `at`, or the net of gate `at`
unfoldable pub held_back : Content → Verdict → ℕ → ℕ → Row
held_back s v of_input of_gate =
    cond (eqb v.number of_input) (rails_of_inputs (net_of s) (only v.at)) (cond (eqb v.number of_gate) (only (2 * s.inputs + v.at)) low)

-- The run of word w: at each step the least net that may switch does, until none may; under 14 and 15 the input or the gate that is named is held
-- back in the rise, under 20 and 21 in the fall.
unfoldable pub witness_run : Content → Verdict → ℕ → Run
witness_run s v w =
    let rise = rise_by (λ k. k) (net_of s) (rails_for w) (held_back s v 14 15) in
    let fall = fall_by (λ k. k) (net_of s) (after low rise) (held_back s v 20 21) in
    record { rise = cond (some (eqb v.number) of_runs) rise []; fall = cond (some (eqb v.number) of_falls) fall [] }

-- a name that is asked for, if it is one of some names; else the first of them
unfoldable pub asked_or_first : List ℕ → ℕ → ℕ
asked_or_first ns asked = let first = get_or ns 0 0 in cond (some (eqb asked) ns) asked first

-- The name of the word that is shown. Of an accepted pair it is the one that the caller asks for. 32 names no word: there it is the one that the caller
-- asks for if it is the name of a word that is cared for, and the first of these names if it is not. Of every other refusal it is the one that the verdict
-- names.
unfoldable pub name_shown : WordOrder → Content → Verdict → ℕ → ℕ
name_shown order s v asked =
    let cared = asked_or_first (names order s) asked in
    cond (eqb v.number 0) asked (cond (eqb v.number 32) cared v.word)

abbrev pub word_shown : WordOrder → Files → ℕ → ℕ
word_shown order f asked = spelled order (stage_in f).inputs (name_shown order (stage_in f) (verdict_on order f) asked)

abbrev pub witness_on : WordOrder → Files → ℕ → Run
witness_on order f asked = witness_run (stage_in f) (verdict_on order f) (word_shown order f asked)

-- ---- what is said of the call

-- What a run of word w shows, by the verdict's number and place: at the output, input or gate named the promise is broken; of an accepted pair the rise
-- and the fall are full, and under 32 too, in a word that is cared for, and the gate named switches in neither. The records are those of demand 3.
pub record Shows (f : Files) (w : ℕ) (v : Verdict) (run : Run) : Type 0 where
  pub accepted : v.number ≡ 0 → FullCycle (net_of (stage_in f)) (rails_for w) run.rise run.fall
  pub wrong : v.number ≡ 13 → ShowsWrong (net_of (stage_in f)) (rails_for w) (answer_to f w) v.at run.rise × (run.fall ≡ [])
  pub incomplete : v.number ≡ 14 → ShowsIncomplete (net_of (stage_in f)) (rails_for w) v.at run.rise × (run.fall ≡ [])
  pub unobservable : v.number ≡ 15
      → ShowsUnobservable (net_of (stage_in f)) (rails_for w) (2 * (stage_in f).inputs + v.at) run.rise × (run.fall ≡ [])
  pub fall_incomplete_holds : v.number ≡ 20 → ShowsFallIncomplete (net_of (stage_in f)) (rails_for w) v.at run.rise run.fall
  pub fall_unobservable_holds : v.number ≡ 21
      → ShowsFallUnobservable (net_of (stage_in f)) (rails_for w) (2 * (stage_in f).inputs + v.at) run.rise run.fall
  pub never_switching : v.number ≡ 32
      → IsWord (stage_in f) w × ShowsNeverSwitching (net_of (stage_in f)) (rails_for w) (2 * (stage_in f).inputs + v.at) run.rise run.fall

-- The verdict is the one that the check gives for files without registers, and demands 2 and 3 hold of it; so what is named is there, in a word that is
-- cared for, and the promise of that word is broken. The run is the one defined, it has at most two switchings for each net, and it shows what the verdict
-- says. Of the other numbers nothing is written.
pub record WitnessDemand (order : WordOrder) (f : Files) (asked : ℕ) (before : List ℕ) (r : RunAnswer) (after' : List ℕ) : Type 0 where
  pub answer : r ≡ answering (verdict_on order f) (witness_on order f asked)
  pub handed : Handed (witness_on order f asked) before r after'
  pub few : r.count ≤ 2 * nets (net_of (stage_in f))
  pub demand2 : Demand2 order f r.verdict
  pub demand3 : Demand3 order f r.verdict
  pub shows : some (eqb r.verdict.number) of_runs ≡ true → BothRead f × Shows f (word_shown order f asked) r.verdict (witness_on order f asked)
  pub nothing : ¬ (some (eqb r.verdict.number) of_runs ≡ true) → (r.count ≡ 0) × (after' ≡ before)
