-- A run in an order that the caller chooses, by a key for each net in the rise and one for each in the fall.
use Rattle.std.specs.Prelude.{ℕ, ◌+◌, ◌*◌, ◌^◌, ◌≤◌, ◌<◌, ◌≡◌, true, cond, List, [], ◌∷◌, length, get_or, take, drop, eqb}
use Rattle.runs.specs.Row.{Row, Rule, low, toggle, after, Ended}
use Rattle.runs.specs.Net.{Net, nets, rise_step, fall_step}
use Rattle.runs.specs.FallWitness.{FullCycle}
use Rattle.netlist.specs.declared.File.TheVariants.{Stage}
use Rattle.netlist.specs.Reading.{stage_limits}
use Rattle.verdict.specs.declared.Verdict.{Verdict}
use Rattle.verdict.specs.declared.WordOrder.{WordOrder}
use Rattle.check_spec.specs.Cases.{Check, judge, accepted}
use Rattle.check_spec.specs.Content.{Content}
use Rattle.check_spec.specs.Rows.{net_of}
use Rattle.check_spec.specs.Words.{rails_for, spelled}
use Rattle.check_spec.specs.Checks.{rest}
use Rattle.check_spec.specs.Verdicts.{reading, row_stage}
use Rattle.check_spec.specs.Demands.{Pass, Judged}
use Rattle.run_spec.specs.declared.RunAnswer.{RunAnswer}
use Rattle.run_spec.specs.Played.{Run, rise_by, fall_by, answering, Handed}
use Rattle.run_spec.specs.Play.{opening_checks}

-- the key of a net, in a list of keys
abbrev pub key_in : List ℕ → ℕ → ℕ
key_in keys net = get_or keys net 0

-- the full run of word w: the first half of the keys is for the rise, the second for the fall
unfoldable pub run_by_keys : Content → List ℕ → ℕ → Run
run_by_keys s keys w =
    let rise = rise_by (key_in keys) (net_of s) (rails_for w) low in
    let fall = fall_by (key_in (drop (nets (net_of s)) keys)) (net_of s) (after low rise) low in
    record { rise = rise; fall = fall }

-- the refusals, of a list with two keys for each net
abbrev pub key_checks_on : List ℕ → List ℕ → List Check
key_checks_on stage keys = opening_checks stage 2 keys

-- the run of the word of a name; a refusal has none
unfoldable pub keys_on : WordOrder → List ℕ → ℕ → List ℕ → Run
keys_on order stage name keys =
    let s = row_stage stage in
    let run = run_by_keys s keys (spelled order s.inputs name) in
    cond (eqb (judge (key_checks_on stage keys)).number 0) run (record { rise = []; fall = [] })

-- ---- what is said of it

-- At each step the net that switches has the least key of all that may; and the list goes on to an end.
abbrev pub LeastFirst : Rule → (ℕ → ℕ) → Row → List ℕ → Type 0
LeastFirst can key r [] = Ended can r
LeastFirst can key r (k ∷ l) = (can r k ≡ true) × ((i : ℕ) → can r i ≡ true → key k ≤ key i) × LeastFirst can key (toggle r k) l

-- nets of a stage with equal keys are the same
abbrev pub Distinct : ℕ → (ℕ → ℕ) → Type 0
Distinct n key = (i k : ℕ) → i < n → k < n → key i ≡ key k → i ≡ k

-- a list of a rule from a row is played by keys, and where these differ it is the only one
pub record PlayedBy (can : Rule) (key : ℕ → ℕ) (n : ℕ) (r : Row) (list : List ℕ) : Type 0 where
  pub least_first : LeastFirst can key r list
  pub only : Distinct n key → (l : List ℕ) → LeastFirst can key r l → l ≡ list

-- some keys, each of 32 bits, play this rise and this fall
pub record KeysFor (s : Content) (w : ℕ) (rise fall : List ℕ) : Type 0 where
  pub keys : List ℕ
  pub long : length keys ≡ 2 * nets (net_of s)
  pub small : (i : ℕ) → get_or keys i 0 < 2 ^ 32
  pub plays : run_by_keys s keys w ≡ record { rise = rise; fall = fall }

-- The run of word w that is played by keys is full, the rise ends at the rest of the word and the fall with all low; each of the two is played by its
-- half of the keys; and every full rise with every full fall is played by some keys.
pub record RunOfKeys (s : Content) (keys : List ℕ) (w : ℕ) (run : Run) : Type 0 where
  pub full : FullCycle (net_of s) (rails_for w) run.rise run.fall
  pub to_rest : after low run.rise ≡ rest s w
  pub to_low : after (rest s w) run.fall ≡ low
  pub rise_by_holds : PlayedBy (rise_step (net_of s) (rails_for w)) (key_in keys) (nets (net_of s)) low run.rise
  pub fall_by_holds : PlayedBy (fall_step (net_of s)) (key_in (drop (nets (net_of s)) keys)) (nets (net_of s)) (rest s w) run.fall
  pub every : (rise fall : List ℕ) → FullCycle (net_of s) (rails_for w) rise fall → KeysFor s w rise fall

pub record KeysDemand (order : WordOrder) (stage : List ℕ) (name : ℕ) (keys before : List ℕ) (r : RunAnswer) (after' : List ℕ) : Type 0 where
  pub answer : r ≡ answering (judge (key_checks_on stage keys)) (keys_on order stage name keys)
  pub handed : Handed (keys_on order stage name keys) before r after'
  pub few : r.count ≤ 2 * nets (net_of (row_stage stage))
  pub least : Judged (key_checks_on stage keys) r.verdict
  pub unchanged : ¬ (r.verdict ≡ accepted) → (after' ≡ before) × (r.count ≡ 0)
  pub run : r.verdict ≡ accepted → Pass (reading Stage stage_limits stage)
      × RunOfKeys (row_stage stage) keys (spelled order (row_stage stage).inputs name) (keys_on order stage name keys)
