-- The checks of registers and their completion, 33, 34 and 35, computed.
use Rattle.std.specs.Prelude.{ℕ, zero, suc, max, Bool, true, false, cond, not, ◌&&◌, ◌||◌, List, [], ◌∷◌, map, eqb}
use Rattle.netlist.specs.Bytes.{outside}
use Rattle.verdict.specs.Lists.{numbers, select, some, lead_to}
use Rattle.wiring_spec.specs.Parts.{Driver, input, gate, rail, acknowledge, completion, nothing}
use Rattle.wiring_spec.specs.Parts.{Pipeline, register_count, data_of, ki_of, driver_of, all_nets}

-- ---- steps from net to net

-- backwards through a gate, to the nets at its pins
unfoldable pub through_gate : Driver → List ℕ
through_gate input = []
through_gate (gate pins) = pins
through_gate (rail k b) = []
through_gate (acknowledge k) = []
through_gate (completion pins) = []
through_gate nothing = []

-- a C-element is opened, to the nets at its pins; nothing else opens
unfoldable pub opened : Driver → List ℕ
opened input = []
opened (gate pins) = []
opened (rail k b) = []
opened (acknowledge k) = []
opened (completion pins) = pins
opened nothing = []

abbrev pub gate_steps : Pipeline → ℕ → List ℕ
gate_steps p x = through_gate (driver_of p x)

abbrev pub openings : Pipeline → ℕ → List ℕ
openings p x = opened (driver_of p x)

-- ---- where a register's data comes from

unfoldable pub is_input : Driver → Bool
is_input input = true
is_input (gate pins) = false
is_input (rail k b) = false
is_input (acknowledge k) = false
is_input (completion pins) = false
is_input nothing = false

-- a rail of register k
unfoldable pub is_rail_of : ℕ → Driver → Bool
is_rail_of k input = false
is_rail_of k (gate pins) = false
is_rail_of k (rail j b) = eqb j k
is_rail_of k (acknowledge j) = false
is_rail_of k (completion pins) = false
is_rail_of k nothing = false

-- a net at register t's data is a net whose driver passes `goal`, or comes from one through gates
unfoldable pub data_from : Pipeline → (Driver → Bool) → ℕ → Bool
data_from p goal t = lead_to (gate_steps p) (λ x. goal (driver_of p x)) (all_nets p) (data_of p t)

-- register k's outputs reach register t through gates or straight
unfoldable pub reaches : Pipeline → ℕ → ℕ → Bool
reaches p k t = data_from p (is_rail_of k) t

-- some data of register t comes from an input through gates or straight
unfoldable pub from_input : Pipeline → ℕ → Bool
from_input p t = data_from p is_input t

abbrev pub registers : Pipeline → List ℕ
registers p = numbers 0 (register_count p)

-- the registers that reach register t
unfoldable pub sources : Pipeline → ℕ → List ℕ
sources p t = select (λ k. reaches p k t) (registers p)

-- register k reaches itself, also through other registers
unfoldable pub reaches_itself : Pipeline → ℕ → Bool
reaches_itself p k = lead_to (sources p) (eqb k) (register_count p) (sources p k)

-- ---- levels

unfoldable pub highest : List ℕ → ℕ
highest [] = 0
highest (l ∷ levels) = max l (highest levels)

-- Inputs have level 0; a register's level is one more than the highest level its data comes from, followed through at most k registers. Where
-- none reaches itself, as many as there are give it.
unfoldable pub level_within : ℕ → Pipeline → ℕ → ℕ
level_within zero p t = 0
level_within (suc k) p t = suc (highest (map (level_within k p) (sources p t)))

unfoldable pub level : Pipeline → ℕ → ℕ
level p = level_within (register_count p) p

-- ---- what stands behind a Ki

unfoldable pub is_ko_of : ℕ → Driver → Bool
is_ko_of k input = false
is_ko_of k (gate pins) = false
is_ko_of k (rail j b) = false
is_ko_of k (acknowledge j) = eqb j k
is_ko_of k (completion pins) = false
is_ko_of k nothing = false

-- a net that passes `goal` stands behind register k's Ki once the C-elements there are opened, and opened again
unfoldable pub behind : Pipeline → (ℕ → Bool) → ℕ → Bool
behind p goal k = lead_to (openings p) goal (all_nets p) (ki_of p k ∷ [])

-- the net of a C-element that leads back to itself through C-elements
unfoldable pub is_loop : Pipeline → ℕ → Bool
is_loop p x = lead_to (openings p) (eqb x) (all_nets p) (openings p x)

-- ---- 33

-- a register that reaches itself, or has a C-element loop behind its Ki
unfoldable pub circular : Pipeline → ℕ → Bool
circular p k = reaches_itself p k || behind p (is_loop p) k

-- a register fed from unequal levels: some data comes from another level than the highest, which is one less than the register's
unfoldable pub uneven : Pipeline → ℕ → Bool
uneven p t = some (λ k. not (eqb (level p t) (suc (level p k)))) (sources p t) || (from_input p t && not (eqb (level p t) 1))

-- ---- 34

-- the Ko of a register that register k reaches is missing behind its Ki
unfoldable pub missing : Pipeline → ℕ → Bool
missing p k = some (λ t. reaches p k t && not (behind p (λ x. is_ko_of t (driver_of p x)) k)) (registers p)

-- ---- 35

-- register t is none that k reaches and not of the next level
unfoldable pub foreign : Pipeline → ℕ → ℕ → Bool
foreign p k t = not (reaches p k t) && not (eqb (level p t) (suc (level p k)))

-- what may not stand behind register k's Ki. FFFE, which nothing drives, may: where something is reached, 34 refuses it first
unfoldable pub bars : Pipeline → ℕ → Driver → Bool
bars p k input = true
bars p k (gate pins) = true
bars p k (rail j b) = true
bars p k (acknowledge t) = foreign p k t
bars p k (completion pins) = false
bars p k nothing = false

-- a net behind its Ki that the rule bars; a register that reaches no other takes the outside
unfoldable pub barred : Pipeline → ℕ → Bool
barred p k =
    let net = behind p (λ x. bars p k (driver_of p x)) k in
    cond (some (reaches p k) (registers p)) net (not (eqb (ki_of p k) outside))
