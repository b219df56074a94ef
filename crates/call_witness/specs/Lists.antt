-- The lists that the code makes: at each step the least net that may move towards a goal and is not held back, for a stage in its flat form.
use Rattle.std.specs.Prelude.{ℕ, ◌+◌, ◌*◌, ◌/◌, ◌≤◌, ◌<◌, ◌≡◌, Bool, true, false, cond, not, ◌&&◌, List, [], length, get_or, eqb}
use Rattle.runs.specs.Row.{Row, Rule, low, only, after, ◌∖◌}
use Rattle.runs.specs.Net.{Net, nets}
use Rattle.netlist.specs.declared.Counts.{Counts}
use Rattle.netlist.specs.declared.File.TheVariants as file
use Rattle.netlist.specs.Reading.{stage_limits}
use Rattle.netlist.specs.Content.{Stage}
use Rattle.verdict.specs.declared.Verdict.{Verdict}
use Rattle.verdict.specs.declared.WordOrder.{WordOrder}
use Rattle.verdict.specs.Words as flat
use Rattle.check_spec.specs.Lists.{some}
use Rattle.check_spec.specs.Rows.{net_of}
use Rattle.check_spec.specs.Words.{rails_for, spelled}
use Rattle.check_spec.specs.Verdicts.{reading, row_stage}
use Rattle.check_spec.specs.Demands.{Pass, LoopFree}
use Rattle.circuit.specs.Stage.{net_count}
use Rattle.circuit_steps.specs.Moves.{moves, loaded_net, row_in}
use Rattle.run_spec.specs.declared.RunAnswer.{RunAnswer}
use Rattle.run_spec.specs.Played.{played, switchings, answering, handed_out}
use Rattle.run_spec.specs.Witness.{of_runs, of_falls, asked_or_first, name_shown, witness_run}

-- ---- steps

-- what may switch towards a goal, but for one net
abbrev pub moving : Net → Row → ℕ → Rule
moving N goal held r = moves N goal r ∖ only held

-- of the numbers from a place on and below n, the first that passes a test; n where none does
pub record FirstFrom (test : ℕ → Bool) (n from r : ℕ) : Type 0 where
  pub within : r ≤ n
  pub found : r < n → test r ≡ true
  pub none : (i : ℕ) → from ≤ i → i < r → test i ≡ false

-- a place from which to look for the next net, once this one has switched
pub record LookFrom (fed : List ℕ) (net r : ℕ) : Type 0 where
  pub not_above : r ≤ net
  pub not_fed : r ≤ get_or fed net 0

-- the least net first, from a row to where none may move
abbrev pub least_first : Net → Row → ℕ → Row → List ℕ
least_first N goal held = played (moving N goal held) (λ k. k) (nets N) (nets N)

-- ---- goals

-- the rails of word w without those of input i, and those of input i alone
abbrev pub without : ℕ → ℕ → Row
without w i k = rails_for w k && not (eqb (k / 2) i)

abbrev pub alone : ℕ → ℕ → Row
alone w i k = rails_for w k && eqb (k / 2) i

-- a row in its flat form has the levels of a goal on the rails
abbrev pub GoalIn : Counts → List ℕ → Row → Type 0
GoalIn c row goal = (k : ℕ) → k < 2 * c.inputs → row_in c row k ≡ goal k

-- ---- what a verdict names

-- under one number an input, or none; under one a gate by its net, or none
abbrev pub input_under : Counts → Verdict → ℕ → ℕ
input_under c v number = cond (eqb v.number number) v.at c.inputs

abbrev pub gate_under : Counts → Verdict → ℕ → ℕ
gate_under c v number = cond (eqb v.number number) (2 * c.inputs + v.at) (net_count c)

-- it is one of the stage
pub record NamedIn (c : Counts) (v : Verdict) : Type 0 where
  pub input_14 : v.number ≡ 14 → v.at < c.inputs
  pub gate_15 : v.number ≡ 15 → v.at < c.gates
  pub input_20 : v.number ≡ 20 → v.at < c.inputs
  pub gate_21 : v.number ≡ 21 → v.at < c.gates

-- ---- the run

unfoldable pub rise_in : Counts → List ℕ → Verdict → ℕ → List ℕ
rise_in c code v w = least_first (loaded_net c code) (without w (input_under c v 14)) (gate_under c v 15) low

unfoldable pub fall_in : Counts → List ℕ → Verdict → ℕ → List ℕ
fall_in c code v w =
    let fall = least_first (loaded_net c code) (alone w (input_under c v 20)) (gate_under c v 21) (after low (rise_in c code v w)) in
    cond (some (eqb v.number) of_falls) fall []

-- ---- a file

-- the name of the word that is shown, of a stage that was loaded
unfoldable pub name_in : WordOrder → Stage → Verdict → ℕ → ℕ
name_in order s v asked =
    let cared = asked_or_first (flat.names order s) asked in
    cond (eqb v.number 0) asked (cond (eqb v.number 32) cared v.word)

-- a verdict that speaks of runs of a stage that reads; it names what is there, and where it looks at the fall of an input the stage has no loop
pub record Showable (stage : List ℕ) (v : Verdict) : Type 0 where
  pub reads : Pass (reading file.Stage stage_limits stage)
  pub speaks : some (eqb v.number) of_runs ≡ true
  pub input_14 : v.number ≡ 14 → v.at < (row_stage stage).inputs
  pub gate_15 : v.number ≡ 15 → v.at < length (row_stage stage).gates
  pub input_20 : v.number ≡ 20 → (v.at < (row_stage stage).inputs) × LoopFree (net_of (row_stage stage))
  pub gate_21 : v.number ≡ 21 → v.at < length (row_stage stage).gates

-- the run for a name that is asked for is handed out
pub record GivenFor (order : WordOrder) (stage : List ℕ) (v : Verdict) (asked : ℕ) (before : List ℕ) (r : RunAnswer) (list : List ℕ) : Type 0 where
  pub answer : r ≡ answering v (witness_run (row_stage stage) v (spelled order (row_stage stage).inputs (name_shown order (row_stage stage) v asked)))
  pub list_is : list
      ≡ handed_out (switchings (witness_run (row_stage stage) v (spelled order (row_stage stage).inputs (name_shown order (row_stage stage) v asked)))) before
