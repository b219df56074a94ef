-- A stage from a reference, and the call that writes it.
use Rattle.std.specs.Prelude.{ℕ, ◌+◌, ◌-◌, ◌*◌, ◌<◌, ◌≡◌, Bool, true, false, not, ◌||◌, List, [], ◌∷◌, ◌++◌, map, reverse, length, get_or, take, eqb, ltb}
use Rattle.netlist.specs.Reading.{reference_limits}
use Rattle.gates.specs.Cell.{bit}
use Rattle.runs.specs.Row.{low, after}
use Rattle.runs.specs.Net.{Net, RiseList, RiseEnd, FallList, rise_step, fall_step}
use Rattle.runs.specs.Pair.{Data}
use Rattle.netlist.specs.declared.File.TheVariants.{Stage, Reference}
use Rattle.netlist.specs.Coded.{Coded}
use Rattle.verdict.specs.declared.WordOrder.{WordOrder}
use Rattle.verdict.specs.declared.Answer.{Answer}
use Rattle.verdict.specs.Written.{written}
use Rattle.check_spec.specs.Cases.{accepted, Check, case, judge, sweep_places}
use Rattle.check_spec.specs.Lists.{numbers, select, some, reaches}
use Rattle.check_spec.specs.Content.{Content, Files, stage_in, reference_in, content_of, files}
use Rattle.check_spec.specs.Rows.{no_gate, net_of}
use Rattle.check_spec.specs.Words.{rails_for, IsWord}
use Rattle.check_spec.specs.Verdicts.{reading}
use Rattle.check_spec.specs.Demands.{Judged, BothRead, Kept, AcceptedUnlessIdle}
use Rattle.check_spec.specs.Writing.{write_file, leaving}

-- ---- the stage

-- what is made of one gate of a reference, or of its first gates: gates of the stage, and the rails of each signal, rail 0 first
pub record Built : Type 0 where
  pub gates : List Coded
  pub rails : List (List ℕ)

abbrev pub gate : ℕ → List ℕ → Coded
gate kind pins = record { code = kind; operands = pins }

-- the two gates of an operation and the rails of its result
abbrev pub realized : Coded → Coded → List ℕ → Built
realized g h rails = record { gates = g ∷ h ∷ []; rails = rails ∷ [] }

-- "NAND and NOR swap the result's rails"
abbrev pub inverted : Built → Built
inverted b = record { gates = b.gates; rails = map reverse b.rails }

-- Operation 1 NOT, 2 AND, 3 OR, 4 XOR, 5 NAND, 6 NOR on the rails of its operands, where the next gate drives net g. "NOT swaps rails. AND is
-- TH22(a1, b1) for rail 1, then THand0(a0, b0, a1, b1) for rail 0; OR is TH22(a0, b0) for rail 0, then THand0(a1, b1, a0, b0) for rail 1; XOR is
-- THxor0(a0, b0, a1, b1) for rail 0, then TH24comp of the same pins for rail 1"
unfoldable pub realize : ℕ → List ℕ → List ℕ → ℕ → Built
realize operation a b g =
    let a0 = get_or a 0 0 in
    let a1 = get_or a 1 0 in
    let b0 = get_or b 0 0 in
    let b1 = get_or b 1 0 in
    let unknown : Built = record { gates = []; rails = (0 ∷ 0 ∷ []) ∷ [] } in
    let as_not : Built = record { gates = []; rails = (a1 ∷ a0 ∷ []) ∷ [] } in
    let as_and = realized (gate 2 (a1 ∷ b1 ∷ [])) (gate 26 (a0 ∷ b0 ∷ a1 ∷ b1 ∷ [])) ((g + 1) ∷ g ∷ []) in
    let as_or = realized (gate 2 (a0 ∷ b0 ∷ [])) (gate 26 (a1 ∷ b1 ∷ a0 ∷ b0 ∷ [])) (g ∷ (g + 1) ∷ []) in
    let as_xor = realized (gate 25 (a0 ∷ b0 ∷ a1 ∷ b1 ∷ [])) (gate 27 (a0 ∷ b0 ∷ a1 ∷ b1 ∷ [])) (g ∷ (g + 1) ∷ []) in
    get_or (unknown ∷ as_not ∷ as_and ∷ as_or ∷ as_xor ∷ inverted as_and ∷ inverted as_or ∷ []) operation unknown

-- the rails of signal x
abbrev pub rails_at : Built → ℕ → List ℕ
rails_at b x = get_or b.rails x (0 ∷ 0 ∷ [])

-- "gates in reference order": with n inputs, the next gate of the stage drives the net after those of the inputs and of the gates before it
unfoldable pub build : ℕ → Built → List Coded → Built
build n b [] = b
build n b (c ∷ cs) =
    let operands : List (List ℕ) = map (rails_at b) c.operands in
    let made = realize c.code (get_or operands 0 (0 ∷ 0 ∷ [])) (get_or operands 1 (0 ∷ 0 ∷ [])) (2 * n + length b.gates) in
    build n (record { gates = b.gates ++ made.gates; rails = b.rails ++ made.rails }) cs

unfoldable pub built : Content → Built
built r = build r.inputs (record { gates = []; rails = map (λ i. 2 * i ∷ (2 * i + 1) ∷ []) (numbers 0 r.inputs) }) r.gates

-- each output is the rails of its signal, and every word is cared for
unfoldable pub made_stage : Content → Content
made_stage r = record {
  inputs = r.inputs;
  gates = (built r).gates;
  outputs = map (λ (o : List ℕ). rails_at (built r) (get_or o 0 0)) r.outputs;
  care = [];
  parts = [];
}

-- ---- the call

-- the operands of the gate whose signal is x
abbrev pub operands_of : Content → ℕ → List ℕ
operands_of r x = (get_or r.gates (x - r.inputs) no_gate).operands

-- the signals of the gates that have signal x as an operand
unfoldable pub readers : Content → ℕ → List ℕ
readers r x = select (λ y. some (eqb x) (operands_of r y)) (numbers r.inputs (length r.gates))

-- x is an output
abbrev pub is_output : Content → ℕ → Bool
is_output r x = some (λ (o : List ℕ). eqb x (get_or o 0 0)) r.outputs

-- it is an output or leads to one
unfoldable pub leads_out : Content → ℕ → Bool
leads_out r x = is_output r x || reaches (readers r) (is_output r) (r.inputs + length r.gates) x

abbrev pub reference_read : List ℕ → Content
reference_read bytes = content_of Reference reference_limits bytes

abbrev pub made_bytes : Content → List ℕ
made_bytes r = write_file Stage (made_stage r)

-- 25 "least signal that is no output and leads to none", 26 more gates needed than a stage may have, at the count, 27 "buffer too short"
unfoldable pub make_checks : Content → ℕ → List Check
make_checks r room =
    let needed = length (built r).gates in
    sweep_places 25 2 (numbers 0 (r.inputs + length r.gates)) (λ x. not (leads_out r x)) ∷
    (case 26 2 needed 0 (ltb 256 needed) ∷ []) ∷
    (case 27 3 0 0 (ltb room (length (made_bytes r))) ∷ []) ∷
    []

-- "in this order after reading"
abbrev pub make_checks_on : List ℕ → ℕ → List Check
make_checks_on reference room = reading Reference reference_limits reference ∷ make_checks (reference_read reference) room

-- ---- what is promised

-- the search of 25 finds every way out: a signal that leads to an output in however many steps
abbrev pub LeadsFound : Content → Type 0
LeadsFound r = (x k : ℕ) → reaches (readers r) (is_output r) k x ≡ true → leads_out r x ≡ true

-- the net of rail b of signal x
abbrev pub signal_net : Content → ℕ → Bool → ℕ
signal_net r x b = get_or (rails_at (built r) x) (bit b) 0

-- x is an operand of gate k
abbrev pub Operand : Content → ℕ → ℕ → Type 0
Operand r k x = some (eqb x) (get_or r.gates k no_gate).operands ≡ true

-- "No rail rises before both operands are DATA." After every list of a word's rise: where a rail of a gate's signal is high, each operand of the gate is
-- DATA; and where such a rail is the next to rise, each operand is DATA already, unless the gate is a NOT, whose rails are those of its operand. In a
-- fall no rail rises: after every list of it, a net that is low may not switch.
pub record Waits (r : Content) (N : Net) (w : ℕ) : Type 0 where
  pub high : (l : List ℕ) → RiseList N (rails_for w) l → (k : ℕ) → k < length r.gates
      → (b : Bool) → after low l (signal_net r (r.inputs + k) b) ≡ true → (x : ℕ) → Operand r k x → Data (after low l) (signal_net r x)
  pub rises : (l : List ℕ) → RiseList N (rails_for w) l → (k : ℕ) → k < length r.gates → ¬ ((get_or r.gates k no_gate).code ≡ 1)
      → (b : Bool) → rise_step N (rails_for w) (after low l) (signal_net r (r.inputs + k) b) ≡ true
      → (x : ℕ) → Operand r k x → Data (after low l) (signal_net r x)
  pub fall : (l : List ℕ) → RiseList N (rails_for w) l → RiseEnd N (rails_for w) l → (m : List ℕ) → FallList N (after low l) m
      → (net : ℕ) → after (after low l) m net ≡ false → fall_step N (after (after low l) m) net ≡ false

-- "Each stage so written is accepted against its reference", in either order of words, "unless a gate never rises" (M-110); its runs obey everything
-- said of an accepted stage in either case; and in every word its rails wait for their operands.
pub record MadeFrom (f : Files) : Type 0 where
  pub reads : BothRead f
  pub stage_is : stage_in f ≡ made_stage (reference_in f)
  pub stage_accepted : (order : WordOrder) → AcceptedUnlessIdle order f
  pub kept : (w : ℕ) → IsWord (stage_in f) w → Kept f w
  pub waits : (w : ℕ) → IsWord (stage_in f) w → Waits (reference_in f) (net_of (stage_in f)) w

-- What is said of the call, by the reference's bytes, the buffer, its answer and the buffer after it: these are as defined, the earliest failing case
-- is named, and where it accepts, the bytes at the start of the buffer, as many as it says, are a stage made from the reference.
pub record MakeDemand (reference buffer : List ℕ) (r : Answer) (left : List ℕ) : Type 0 where
  pub answer : written r left ≡ leaving (judge (make_checks_on reference (length buffer))) (made_bytes (reference_read reference)) buffer
  pub least : Judged (make_checks_on reference (length buffer)) r.verdict
  pub leads : LeadsFound (reference_read reference)
  pub made : r.verdict.number ≡ 0 → (r.verdict ≡ accepted) × MadeFrom (files (take r.count left) reference)
