-- A stage file that a call opens: its refusals, or the stage in its flat form.
use Rattle.std.specs.Prelude.{ℕ, ◌*◌, ◌<◌, ◌≡◌, true, false, ◌⊎◌, List, length, Result, Ok, Err}
use Rattle.netlist.specs.declared.Counts.{Counts}
use Rattle.verdict.specs.declared.Verdict.{Verdict}
use Rattle.verdict.specs.FourNumbers.{verdict, accepted}
use Rattle.verdict.specs.Loops.{reaches_itself}
use Rattle.check_spec.specs.Cases.{judge}
use Rattle.check_spec.specs.Content.{Content}
use Rattle.check_spec.specs.Rows.{net_of}
use Rattle.check_spec.specs.Verdicts.{row_stage}
use Rattle.circuit.specs.Stage.{net_count, stage_gates, stage_in, StageLoaded}
use Rattle.circuit_steps.specs.Moves.{loaded_net}
use Rattle.run_spec.specs.Play.{opening_checks}

-- a stage that is refused, or its counts
abbrev pub Opening : Type 0
Opening = Result Counts Verdict

-- ---- a stage that was loaded

-- 12: gate g is the least that reaches itself
pub record LeastLoop (c : Counts) (code : List ℕ) (g : ℕ) : Type 0 where
  pub gate : g < c.gates
  pub loops : reaches_itself c.inputs (stage_gates c code) g ≡ true
  pub none_before : (k : ℕ) → k < g → reaches_itself c.inputs (stage_gates c code) k ≡ false

abbrev pub NoLoops : Counts → List ℕ → Type 0
NoLoops c code = (k : ℕ) → k < c.gates → reaches_itself c.inputs (stage_gates c code) k ≡ false

-- 12, then 16 where a length is not the wanted one, else it is opened
abbrev pub ByLoaded : Counts → List ℕ → ℕ → ℕ → List ℕ → Opening → Type 0
ByLoaded c code given wanted after (Err v) =
    ((g : ℕ) × LeastLoop c code g × (v ≡ verdict 12 1 g 0)) ⊎ (NoLoops c code × (¬ (given ≡ wanted)) × (v ≡ verdict 16 3 given 0))
ByLoaded c code given wanted after (Ok d) = (d ≡ c) × NoLoops c code × (given ≡ wanted) × StageLoaded c after × (stage_in c after ≡ stage_in c code)

pub record OpenedFrom (c : Counts) (code : List ℕ) (given wanted : ℕ) (after : List ℕ) (o : Opening) : Type 0 where
  pub by : ByLoaded c code given wanted after o

-- ---- a file

-- a flat form of the stage that a file holds
pub record StageOpened (stage : List ℕ) (c : Counts) (code : List ℕ) : Type 0 where
  pub loaded : StageLoaded c code
  pub net : loaded_net c code ≡ net_of (row_stage stage)
  pub inputs : c.inputs ≡ (row_stage stage).inputs
  pub gates : c.gates ≡ length (row_stage stage).gates

-- the verdict on a stage and a list with so many entries for each net, or the stage where it is accepted
abbrev pub ByFile : List ℕ → List ℕ → ℕ → List ℕ → Opening → Type 0
ByFile stage list each code (Err v) = (v ≡ judge (opening_checks stage each list)) × (¬ (v.number ≡ 0))
ByFile stage list each code (Ok c) = StageOpened stage c code × (judge (opening_checks stage each list) ≡ accepted)

pub record OpenedAs (stage list : List ℕ) (each : ℕ) (code : List ℕ) (o : Opening) : Type 0 where
  pub by : ByFile stage list each code o
