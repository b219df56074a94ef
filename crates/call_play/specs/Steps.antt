-- Steps of a list on a stage in its flat form.
use Rattle.std.specs.Prelude.{ℕ, ◌≤◌, ◌<◌, ◌≡◌, List, take}
use Rattle.runs.specs.Row.{Rule, low, after}
use Rattle.netlist.specs.declared.Counts.{Counts}
use Rattle.verdict.specs.declared.WordOrder.{WordOrder}
use Rattle.verdict.specs.FourNumbers.{accepted}
use Rattle.verdict.specs.Words.{spelled}
use Rattle.circuit.specs.Rows.{RowFor}
use Rattle.circuit_steps.specs.Moves.{loaded_net, row_in}
use Rattle.check_spec.specs.Words.{rails_for}
use Rattle.run_spec.specs.declared.PlayAnswer.{PlayAnswer}
use Rattle.run_spec.specs.Play.{allowed, steps_of, levels_of}

-- as many steps of a list are taken from a row as a rule allows, and the row is the one that they leave
pub record Taken (can : Rule) (c : Counts) (list before : List ℕ) (steps : ℕ) (row : List ℕ) : Type 0 where
  pub row_for_holds : RowFor c row
  pub steps_are : steps ≡ allowed can (row_in c before) list
  pub row_is : row_in c row ≡ after (row_in c before) (take steps list)

-- the place in a list of so many steps where its fall begins: a place behind its end is its end
pub record Begins (fall count r : ℕ) : Type 0 where
  pub not_behind : r ≤ fall
  pub within : r ≤ count
  pub else_end : r < fall → r ≡ count

-- the same of a list of word w that is a rise up to a place and then a fall, from all low
pub record Played (c : Counts) (code : List ℕ) (w fall : ℕ) (list : List ℕ) (steps : ℕ) (row : List ℕ) : Type 0 where
  pub row_for_holds : RowFor c row
  pub steps_are : steps ≡ steps_of (loaded_net c code) (rails_for w) fall list
  pub row_is : row_in c row ≡ after low (take steps list)

-- of the word that a name spells; the row is written as bytes
pub record LeftBy (order : WordOrder) (c : Counts) (code : List ℕ) (name fall : ℕ) (list : List ℕ) (r : PlayAnswer) (row : List ℕ) : Type 0 where
  pub answer : r ≡ record { verdict = accepted; steps = steps_of (loaded_net c code) (rails_for (spelled order c.inputs name)) fall list }
  pub row_is : row ≡ levels_of (loaded_net c code) (after low (take (steps_of (loaded_net c code) (rails_for (spelled order c.inputs name)) fall list) list))
