-- Lists that are played by keys on a stage in its flat form.
use Rattle.std.specs.Prelude.{ℕ, ◌≤◌, ◌<◌, ◌≡◌, Bool, true, false, ◌⊎◌, List, drop}
use Rattle.runs.specs.Row.{Row, low, after}
use Rattle.runs.specs.Net.{Net, nets}
use Rattle.netlist.specs.declared.Counts.{Counts}
use Rattle.verdict.specs.declared.WordOrder.{WordOrder}
use Rattle.verdict.specs.FourNumbers.{accepted}
use Rattle.verdict.specs.Words.{spelled}
use Rattle.check_spec.specs.Words.{rails_for}
use Rattle.circuit_steps.specs.Moves.{moves, loaded_net}
use Rattle.run_spec.specs.declared.RunAnswer.{RunAnswer}
use Rattle.run_spec.specs.Played.{Run, played, switchings, answering, handed_out}
use Rattle.run_spec.specs.Keys.{key_in}

-- of the numbers below m that pass a test, `best` has the least key and is the least of those with that key; n stands for none
pub record BestOf (test : ℕ → Bool) (key : ℕ → ℕ) (n m best : ℕ) : Type 0 where
  pub within : best ≤ n
  pub none : best ≡ n → (i : ℕ) → i < m → test i ≡ false
  pub some : best < n → (best < m) × (test best ≡ true) × ((i : ℕ) → i < m → test i ≡ true → (key best < key i) ⊎ ((key best ≡ key i) × (best ≤ i)))

-- of `best`, if that is one, and a later net, the one with the lesser key, the first of equal ones
abbrev pub Earlier : (ℕ → ℕ) → ℕ → ℕ → ℕ → ℕ → Type 0
Earlier key n best net r = ((r ≡ best) × (best < n) × (key best ≤ key net)) ⊎ ((r ≡ net) × (best < n → key net < key best))

-- what is played by keys towards a goal from a row
abbrev pub by_keys : Net → Row → (ℕ → ℕ) → Row → List ℕ
by_keys N goal key = played (moves N goal) key (nets N) (nets N)

-- the rise of word w by the first keys, and the fall from its end by those behind them
unfoldable pub rise_in : Counts → List ℕ → List ℕ → ℕ → List ℕ
rise_in c code keys w = by_keys (loaded_net c code) (rails_for w) (key_in keys) low

unfoldable pub fall_in : Counts → List ℕ → List ℕ → ℕ → List ℕ
fall_in c code keys w = by_keys (loaded_net c code) low (key_in (drop (nets (loaded_net c code)) keys)) (after low (rise_in c code keys w))

abbrev pub run_in : Counts → List ℕ → List ℕ → ℕ → Run
run_in c code keys w = record { rise = rise_in c code keys w; fall = fall_in c code keys w }

-- the run of the word that a name spells is handed out
pub record GivenBy (order : WordOrder) (c : Counts) (code : List ℕ) (name : ℕ) (keys before : List ℕ) (r : RunAnswer) (list : List ℕ) : Type 0 where
  pub answer : r ≡ answering accepted (run_in c code keys (spelled order c.inputs name))
  pub list_is : list ≡ handed_out (switchings (run_in c code keys (spelled order c.inputs name))) before
