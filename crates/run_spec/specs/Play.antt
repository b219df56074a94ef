-- A list of switchings, judged: the first step that the rules bar, and the row before it.
use Rattle.std.specs.Prelude.{ℕ, suc, ◌+◌, ◌*◌, ◌≤◌, ◌<◌, ◌≡◌, Bool, cond, not, ◌&&◌, List, [], ◌∷◌, map, length, take, drop, eqb}
use Rattle.gates.specs.Cell.{bit}
use Rattle.runs.specs.Row.{Row, Rule, low, toggle, after}
use Rattle.runs.specs.Net.{Net, nets, rise_step, fall_step, RiseList, RiseEnd, FallList}
use Rattle.netlist.specs.declared.File.TheVariants.{Stage}
use Rattle.netlist.specs.Reading.{stage_limits}
use Rattle.verdict.specs.declared.Verdict.{Verdict}
use Rattle.verdict.specs.declared.WordOrder.{WordOrder}
use Rattle.check_spec.specs.Cases.{Check, case, judge, accepted}
use Rattle.check_spec.specs.Lists.{numbers, every}
use Rattle.check_spec.specs.Content.{Content}
use Rattle.check_spec.specs.Rows.{net_of}
use Rattle.check_spec.specs.Words.{rails_for, spelled}
use Rattle.check_spec.specs.Checks.{looped}
use Rattle.check_spec.specs.Verdicts.{reading, row_stage}
use Rattle.check_spec.specs.Demands.{Pass, Judged}
use Rattle.run_spec.specs.declared.PlayAnswer.{PlayAnswer}

-- ---- steps

-- how many steps of a list a rule allows, each on the row that the one before it left, before the first that it bars
unfoldable pub allowed : Rule → Row → List ℕ → ℕ
allowed can r [] = 0
allowed can r (k ∷ l) = let more = allowed can (toggle r k) l in cond (can r k) (suc more) 0

-- none of the nets below n may switch
unfoldable pub none_left : Rule → ℕ → Row → Bool
none_left can n r = every (λ k. not (can r k)) (numbers 0 n)

-- How many steps are allowed of a list that is a rise of the rails c up to place `fall`, and from there on a fall. This "starts at that end" of the rise at
-- which no step is left: where some is, the first step of the fall is barred.
unfoldable pub steps_of : Net → Row → ℕ → List ℕ → ℕ
steps_of N c fall list =
    let rise = take fall list in
    let up = allowed (rise_step N c) low rise in
    let down = allowed (fall_step N) (after low rise) (drop fall list) in
    let both = up + down in
    cond (eqb up (length rise) && none_left (rise_step N c) (nets N) (after low rise)) both up

-- ---- the call

-- 16: a list has not as many entries as it has to have
abbrev pub wrong_length : ℕ → List ℕ → Check
wrong_length n list = case 16 3 (length list) 0 (not (eqb (length list) n)) ∷ []

-- the refusals of a call that takes a stage and a list with some entries for each net: reading, then 12, then 16
abbrev pub opening_checks : List ℕ → ℕ → List ℕ → List Check
opening_checks stage each list = reading Stage stage_limits stage ∷ looped (row_stage stage) ∷ wrong_length (each * nets (net_of (row_stage stage))) list ∷ []

-- here of a row with a byte for each net
abbrev pub play_checks_on : List ℕ → List ℕ → List Check
play_checks_on stage row = opening_checks stage 1 row

-- the steps of a list that the rules allow to the word of a name
abbrev pub played_steps : WordOrder → List ℕ → ℕ → ℕ → List ℕ → ℕ
played_steps order stage name fall list = let s = row_stage stage in steps_of (net_of s) (rails_for (spelled order s.inputs name)) fall list

unfoldable pub play_on : WordOrder → List ℕ → ℕ → ℕ → List ℕ → List ℕ → PlayAnswer
play_on order stage name fall list row =
    let v = judge (play_checks_on stage row) in
    let steps = played_steps order stage name fall list in
    record { verdict = v; steps = cond (eqb v.number 0) steps 0 }

-- a row as bytes, 1 for high and 0 for low
abbrev pub levels_of : Net → Row → List ℕ
levels_of N r = map (λ k. bit (r k)) (numbers 0 (nets N))

-- the row after the call: that after all steps before the first that is barred; a refusal leaves it as it was
unfoldable pub play_row : WordOrder → List ℕ → ℕ → ℕ → List ℕ → List ℕ → List ℕ
play_row order stage name fall list row =
    let steps = played_steps order stage name fall list in
    let levels = levels_of (net_of (row_stage stage)) (after low (take steps list)) in
    cond (eqb (judge (play_checks_on stage row)).number 0) levels row

-- ---- what is said of it

-- some steps of a rise of the rails c, and behind place `fall`, which is an end of that rise, steps of the fall from there
abbrev pub RunList : Net → Row → ℕ → List ℕ → Type 0
RunList N c fall l = RiseList N c (take fall l) × (fall < length l → RiseEnd N c (take fall l) × FallList N (after low (take fall l)) (drop fall l))

-- a list is one of a run up to the first step that is barred, and with this step it is none
pub record Barred (N : Net) (c : Row) (fall : ℕ) (list : List ℕ) (steps : ℕ) : Type 0 where
  pub within : steps ≤ length list
  pub legal : RunList N c fall (take steps list)
  pub barred : steps < length list → ¬ (RunList N c fall (take (suc steps) list))

-- the earliest refusal is named, and leaves the row as it was; else the steps are those of the word's runs
pub record PlayDemand (order : WordOrder) (stage : List ℕ) (name fall : ℕ) (list before : List ℕ) (r : PlayAnswer) (after' : List ℕ) : Type 0 where
  pub answer : r ≡ play_on order stage name fall list before
  pub row : after' ≡ play_row order stage name fall list before
  pub least : Judged (play_checks_on stage before) r.verdict
  pub unchanged : ¬ (r.verdict ≡ accepted) → (after' ≡ before) × (r.steps ≡ 0)
  pub steps : r.verdict ≡ accepted → Pass (reading Stage stage_limits stage)
      × Barred (net_of (row_stage stage)) (rails_for (spelled order (row_stage stage).inputs name)) fall list r.steps
