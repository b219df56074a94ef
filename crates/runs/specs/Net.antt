-- A stage as its file gives it, and how it moves: the gate rule, the rise and the fall.
-- Assumes nothing.
use Rattle.std.specs.Prelude.{Bool, true, false, not, cond, ◌&&◌, List, [], ◌∷◌, ℕ, ◌+◌, ◌*◌, ◌/◌, ◌≤◌, ◌<◌, ltb}
use Rattle.runs.specs.Row.{Row, Rule, low, switch, after, Legal, Ended}

-- "Input i of a stage has nets 2i (rail 0) and 2i + 1 (rail 1); gate k drives net 2n + k."
-- Gates go by the nets that they drive: `pins g` are the nets at the pins of the gate that drives net g, `fires r g` is its set
-- expression on row r, and `hold g` says that it has the hold of NULL Convention Logic. Output j has the nets `rail j false`
-- (rail 0) and `rail j true` (rail 1).
pub record Net : Type 0 where
  pub inputs : ℕ
  pub gates : ℕ
  pub outputs : ℕ
  pub rail : ℕ → Bool → ℕ
  pub pins : ℕ → List ℕ
  pub fires : Row → ℕ → Bool
  pub hold : ℕ → Bool

-- The nets below this number are the inputs' rails.
abbrev pub rails : Net → ℕ
rails N = 2 * N.inputs

-- The nets below this number are all there are.
abbrev pub nets : Net → ℕ
nets N = 2 * N.inputs + N.gates

-- Net g is driven by a gate.
abbrev pub IsGate : Net → ℕ → Type 0
IsGate N g = (rails N ≤ g) × (g < nets N)

-- The net of rail b of input i.
abbrev pub input_rail : ℕ → Bool → ℕ
input_rail i false = 2 * i
input_rail i true = 2 * i + 1

-- All nets of a list are low.
abbrev pub all_low : Row → List ℕ → Bool
all_low r [] = true
all_low r (p ∷ ps) = not (r p) && all_low r ps

-- "A low gate may rise exactly if its set expression holds."
abbrev pub may_rise : Net → Rule
may_rise N r g = N.fires r g

-- "A high gate may fall exactly if all the pins its kind has are low." A gate without hold may fall as soon as its set expression
-- is false.
abbrev pub may_fall : Net → Rule
may_fall N r g = cond (N.hold g) (all_low r (N.pins g)) (not (N.fires r g))

-- One answer for an input's rail and one for a gate; a net that does not exist never switches.
abbrev pub by_net : Net → ℕ → Bool → Bool → Bool
by_net N k rail gate = cond (ltb k (rails N)) rail (cond (ltb k (nets N)) gate false)

-- The rise of a set c of rails: a step "raises one input rail that" c "calls for and that is still low, or lets one gate switch by the
-- two rules". No rail falls; a high gate may, where its rule allows it.
abbrev pub rise_up : Net → Row → Rule
rise_up N c r k = by_net N k (c k) (may_rise N r k)

abbrev pub rise_down : Net → Rule
rise_down N r k = by_net N k false (may_fall N r k)

abbrev pub rise_step : Net → Row → Rule
rise_step N c = switch (rise_up N c) (rise_down N)

-- The fall: "its steps lower an input rail that is still high instead of raising one". No rail rises; a low gate may, where its rule
-- allows it.
abbrev pub fall_up : Net → Rule
fall_up N r k = by_net N k false (may_rise N r k)

abbrev pub fall_down : Net → Rule
fall_down N r k = by_net N k true (may_fall N r k)

abbrev pub fall_step : Net → Rule
fall_step N = switch (fall_up N) (fall_down N)

-- A list of steps of the rise of c, which "starts with every net low"; and that it has come to an end: "no step is left".
abbrev pub RiseList : Net → Row → List ℕ → Type 0
RiseList N c l = Legal (rise_step N c) low l

abbrev pub RiseEnd : Net → Row → List ℕ → Type 0
RiseEnd N c l = Ended (rise_step N c) (after low l)

-- A list of steps of the fall from row R, and that it has come to an end. "The fall starts at that end" of a rise: there R is the row
-- that the rise has left.
abbrev pub FallList : Net → Row → List ℕ → Type 0
FallList N R l = Legal (fall_step N) R l

abbrev pub FallEnd : Net → Row → List ℕ → Type 0
FallEnd N R l = Ended (fall_step N) (after R l)

-- The rails of a set A of inputs.
abbrev pub rails_of_inputs : Net → (ℕ → Bool) → Row
rails_of_inputs N A k = ltb k (rails N) && A (k / 2)
