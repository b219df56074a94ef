-- What the checks of registers and completion test, in the paper's words, said of paths: which register reaches which, what stands behind
-- a Ki, and when the wiring passes.
use Rattle.std.specs.Prelude.{ℕ, suc, ◌<◌, ◌≡◌, Bool, true, false, ◌⊎◌, ◌↔◌}
use Rattle.netlist.specs.Bytes.{outside}
use Rattle.verdict.specs.Paths.{In, Leads, OnLoop}
use Rattle.wiring_spec.specs.Parts.{Driver, input, gate, rail, acknowledge, completion, nothing}
use Rattle.wiring_spec.specs.Parts.{Pipeline, register_count, data_of, ki_of, driver_of}
use Rattle.wiring_spec.specs.Wiring as test
use Rattle.wiring_spec.specs.Wiring.{gate_steps, openings, is_input, is_rail_of, is_ko_of, level}

-- ---- reaching

-- a net at register t's data is a net whose driver passes `goal`, or leads back to one through gates
abbrev pub DataFrom : Pipeline → (Driver → Bool) → ℕ → Type 0
DataFrom p goal t = (x : ℕ) × In x (data_of p t) × (y : ℕ) × (goal (driver_of p y) ≡ true) × Leads (gate_steps p) y x

-- register k's outputs reach register t through gates or straight
abbrev pub Reaches : Pipeline → ℕ → ℕ → Type 0
Reaches p k t = DataFrom p (is_rail_of k) t

abbrev pub FromInput : Pipeline → ℕ → Type 0
FromInput p t = DataFrom p is_input t

-- the same, also through other registers
pub data ReachesOn (p : Pipeline) (k : ℕ) : ℕ → Type 0 where
  straight : {t : ℕ} → Reaches p k t → ReachesOn p k t
  through : {j t : ℕ} → ReachesOn p k j → Reaches p j t → ReachesOn p k t

-- register k reaches no register
abbrev pub ReachesNone : Pipeline → ℕ → Type 0
ReachesNone p k = (t : ℕ) → ¬ (Reaches p k t)

-- ---- behind a Ki

-- opening the C-elements behind register k's Ki comes to net y
abbrev pub Behind : Pipeline → ℕ → ℕ → Type 0
Behind p k y = Leads (openings p) y (ki_of p k)

-- the Ko of register t stands behind register k's Ki
abbrev pub KoBehind : Pipeline → ℕ → ℕ → Type 0
KoBehind p k t = (y : ℕ) × (is_ko_of t (driver_of p y) ≡ true) × Behind p k y

-- What may stand behind register k's Ki: C-elements, which are opened, the Ko of registers that it reaches, and otherwise only the Ko
-- of registers of the next level. FFFE too, which nothing drives: where something is reached, 34 refuses it first.
abbrev pub MayStand : Pipeline → ℕ → Driver → Type 0
MayStand p k input = ⊥
MayStand p k (gate pins) = ⊥
MayStand p k (rail j b) = ⊥
MayStand p k (acknowledge t) = Reaches p k t ⊎ (level p t ≡ suc (level p k))
MayStand p k (completion pins) = Unit {0}
MayStand p k nothing = Unit {0}

-- ---- 33, 34 and 35 at a register

-- 33: "a register that reaches itself, also through other registers, or has a C-element loop behind its Ki"
abbrev pub Circular : Pipeline → ℕ → Type 0
Circular p k = ReachesOn p k k ⊎ ((y : ℕ) × Behind p k y × OnLoop (openings p) y)

-- 33: "or if none, one fed from unequal levels"
abbrev pub Uneven : Pipeline → ℕ → Type 0
Uneven p t = ((k : ℕ) × Reaches p k t × ¬ (level p t ≡ suc (level p k))) ⊎ (FromInput p t × ¬ (level p t ≡ 1))

-- 34: "a needed Ko missing"
abbrev pub Missing : Pipeline → ℕ → Type 0
Missing p k = (t : ℕ) × Reaches p k t × ¬ (KoBehind p k t)

-- 35: "a net behind a Ki that the rule bars"; "a register reaching no other takes FFFE"
abbrev pub Barred : Pipeline → ℕ → Type 0
Barred p k =
    (((t : ℕ) × Reaches p k t) × ((y : ℕ) × Behind p k y × ¬ (MayStand p k (driver_of p y))))
    ⊎ (ReachesNone p k × ¬ (ki_of p k ≡ outside))

-- ---- the wiring

-- 33 finds nothing
pub record Levelled (p : Pipeline) : Type 0 where
  pub forward : (k : ℕ) → ¬ (ReachesOn p k k)
  pub no_loop : (k y : ℕ) → k < register_count p → Behind p k y → ¬ (OnLoop (openings p) y)
  pub equal : (k t : ℕ) → Reaches p k t → level p t ≡ suc (level p k)
  pub first : (t : ℕ) → FromInput p t → level p t ≡ 1

-- the rule for register k: all that it reaches acknowledge it, and otherwise only registers of the next level; where it reaches no
-- other it takes the outside
pub record Acknowledged (p : Pipeline) (k : ℕ) : Type 0 where
  pub all : (t : ℕ) → Reaches p k t → KoBehind p k t
  pub only : (t : ℕ) → Reaches p k t → (y : ℕ) → Behind p k y → MayStand p k (driver_of p y)
  pub alone : ReachesNone p k → ki_of p k ≡ outside

-- the wiring passes
pub record Passes (p : Pipeline) : Type 0 where
  pub levelled : Levelled p
  pub acknowledged : (k : ℕ) → k < register_count p → Acknowledged p k

-- something is so at register k and at none before it, or at no register
abbrev pub LeastAt : (ℕ → Type 0) → ℕ → Type 0
LeastAt P k = P k × ((j : ℕ) → j < k → ¬ (P j))

abbrev pub AtNone : Pipeline → (ℕ → Type 0) → Type 0
AtNone p P = (k : ℕ) → k < register_count p → ¬ (P k)

-- a test fails at no register
abbrev pub Nowhere : Pipeline → (ℕ → Bool) → Type 0
Nowhere p fails = (k : ℕ) → k < register_count p → fails k ≡ false

-- 33, 34 and 35 find nothing
pub record FindNothing (p : Pipeline) : Type 0 where
  pub circular : Nowhere p (test.circular p)
  pub uneven : Nowhere p (test.uneven p)
  pub missing : Nowhere p (test.missing p)
  pub barred : Nowhere p (test.barred p)

-- "a register's level is one more than the highest level its data comes from": it is above the level of each register that reaches it, and one more than
-- that of some, or 1 where none does, since "inputs have level 0"
pub record LevelOf (p : Pipeline) (t : ℕ) : Type 0 where
  pub above : (k : ℕ) → Reaches p k t → level p k < level p t
  pub next : (((k : ℕ) → ¬ (Reaches p k t)) × (level p t ≡ 1)) ⊎ ((k : ℕ) × Reaches p k t × (level p t ≡ suc (level p k)))

-- What 33, 34 and 35 test is what the paper says, "the wiring passes exactly if" they find nothing, and levels are as it says where the first pass of 33
-- finds nothing.
pub record WiringMeans (p : Pipeline) : Type 0 where
  pub circular_is : (k : ℕ) → (test.circular p k ≡ true) ↔ Circular p k
  pub uneven_is : (t : ℕ) → (test.uneven p t ≡ true) ↔ Uneven p t
  pub missing_is : (k : ℕ) → (test.missing p k ≡ true) ↔ Missing p k
  pub barred_is : (k : ℕ) → (test.barred p k ≡ true) ↔ Barred p k
  pub passes_exactly : Passes p ↔ FindNothing p
  pub levels : Nowhere p (test.circular p) → (t : ℕ) → t < register_count p → LevelOf p t
