-- Demands 2 and 3 of the customer, as statements about two files, and what is said of the settled-row call.
use Rattle.std.specs.Prelude.{ℕ, ◌+◌, ◌*◌, ◌^◌, ◌≤◌, ◌<◌, ◌≡◌, Bool, true, false, ◌⊎◌, ◌↔◌, length, get_or, take, eqb}
use mathlib.Core.List.{List, [], ◌∷◌, ◌++◌, flat_map}
use Rattle.gates.specs.Cell.{is_retired}
use Rattle.runs.specs.Row.{Row, low, after}
use Rattle.runs.specs.Net.{Net, IsGate, nets, rise_step, fall_step, RiseList, RiseEnd, FallList}
use Rattle.runs.specs.Settled.{Settled, SettledHeld, SettledKept}
use Rattle.runs.specs.Pair.{DataOf, AllData, AllNull}
use Rattle.runs.specs.Complete.{Conforms}
use Rattle.runs.specs.Promise.{GoesOn, Promise}
use Rattle.runs.specs.Exchange.{OneFromAnother}
use Rattle.runs.specs.Witness.{Wrong, Incomplete, Unobservable}
use Rattle.runs.specs.FallWitness.{FallIncomplete, FallUnobservable}
use Rattle.verdict.specs.declared.Verdict.{Verdict}
use Rattle.verdict.specs.declared.WordOrder.{WordOrder}
use Rattle.netlist.specs.Commands.{stage_file}
use Rattle.netlist.specs.declared.File.TheVariants.{Stage, Reference}
use Rattle.netlist.specs.Reading.{stage_limits, NoMore, RefusedAtPart}
use Rattle.check_spec.specs.Cases.{verdict, accepted, Case, Check}
use Rattle.check_spec.specs.Lists.{bit_of, some, reaches}
use Rattle.wiring_spec.specs.Parts.{Pipeline, register_count}
use Rattle.wiring_spec.specs.Wiring.{gate_steps, circular}
use Rattle.verdict.specs.Paths.{In}
use Rattle.wiring_spec.specs.Named as naming
use Rattle.wiring_spec.specs.Wires.{WiresMean}
use Rattle.wiring_spec.specs.Passing.{Circular, Uneven, Missing, Barred, Levelled, Passes, LeastAt, AtNone, Nowhere, WiringMeans}
use Rattle.check_spec.specs.Content.{Content, pipeline_of, Files, raw_in, stage_in, reference_in, without_registers}
use Rattle.check_spec.specs.Rows.{driver, cell_in, net_of, risen, fallen, data_of, all_data, all_null, feeding, reaches_itself}
use Rattle.check_spec.specs.Words.{rails_for, spelled, IsWord, answer}
use Rattle.check_spec.specs.Checks.{rest, retired_gate, illegal}
use Rattle.check_spec.specs.Verdicts.{reading, checks_on, verdict_on, rails_in, row_stage, row_checks_on}

-- ---- cases

-- all cases of a list pass
abbrev pub Pass : List Case → Type 0
Pass [] = Unit {0}
Pass (c ∷ cs) = (c.fails ≡ false) × Pass cs

-- a case of a list fails, those before it pass, and it is named
pub record Named (cases : List Case) (v : Verdict) : Type 0 where
  pub before : List Case
  pub case_is : Case
  pub later : List Case
  pub stands : cases ≡ before ++ (case_is ∷ later)
  pub fails : case_is.fails ≡ true
  pub none : Pass before
  pub names : v ≡ case_is.names

-- the earliest failing case of some checks is named, or all pass
abbrev pub Judged : List Check → Verdict → Type 0
Judged checks v = Named (flat_map (λ c. c) checks) v ⊎ Pass (flat_map (λ c. c) checks) × (v ≡ accepted)

-- ---- demand 2

abbrev pub BothRead : Files → Type 0
BothRead f = Pass (reading (stage_file f.registers) f.stage_most f.stage) × Pass (reading Reference f.reference_most f.reference)

abbrev pub LoopFree : Net → Type 0
LoopFree N = (net : ℕ) → IsGate N net → reaches_itself N net ≡ false

-- the search of 12 finds every loop: a gate that reaches itself in however many steps
abbrev pub LoopsFound : Net → Type 0
LoopsFound N = (net k : ℕ) → reaches (feeding N) (eqb net) k net ≡ true → reaches_itself N net ≡ true

-- "a readable, loop-free stage whose counts match"
pub record Comparable (f : Files) : Type 0 where
  pub read : BothRead f
  pub inputs : (raw_in f).inputs ≡ (reference_in f).inputs
  pub outputs : length (raw_in f).outputs ≡ length (reference_in f).outputs
  pub loop_free : LoopFree (net_of (raw_in f))

-- the reference's answer to word w
abbrev pub answer_to : Files → ℕ → ℕ → Bool
answer_to f w = answer (reference_in f) (bit_of w)

-- the gate that drives a net rises in some care word: some list of switchings of that word leaves it high
pub record Rises (f : Files) (net : ℕ) : Type 0 where
  pub in_word_holds : ℕ
  pub word : IsWord (stage_in f) in_word_holds
  pub list : List ℕ
  pub legal : RiseList (net_of (stage_in f)) (rails_for in_word_holds) list
  pub high : after low list net ≡ true

-- how the stage of two files is wired
abbrev pub wiring_in : Files → Pipeline
wiring_in f = pipeline_of (raw_in f)

-- No gate is of a retired kind (M-108), "for every input word", of M-101 every care word, "its settled outputs spell the reference's answer
-- and it is input-complete and observable as NCL defines these", every gate rises in some care word (M-110), and the wiring passes (M-111).
pub record Acceptable (f : Files) : Type 0 where
  pub wiring : Passes (wiring_in f)
  pub cast : (net : ℕ) → IsGate (net_of (stage_in f)) net → is_retired (cell_in (driver (stage_in f) net)) ≡ false
  pub conforms : (w : ℕ) → IsWord (stage_in f) w → Conforms (net_of (stage_in f)) (rails_for w) (answer_to f w)
  pub rises : (net : ℕ) → IsGate (net_of (stage_in f)) net → Rises f net

-- every operand of a stage names a net of the sort that 9 asks for, by what drives the nets: pins, data, Ki and C-elements, and the outputs data
pub record StageNamed (raw : Content) : Type 0 where
  pub wiring : naming.Named (pipeline_of raw)
  pub outputs : (j v : ℕ) → In v (get_or raw.outputs j []) → naming.IsData (pipeline_of raw) v

-- R is a row of some sort, and the only one
abbrev pub TheOnly : (Row → Type 0) → Row → Type 0
TheOnly P R = P R × ((r : Row) → P r → r ≡ R)

-- What demand 2 says of a verdict on two files: a comparable stage "is accepted exactly if" it is acceptable; "otherwise the verdict names
-- the earliest failing check and its least case". What the cases ask is the paper's: a gate that reaches itself in however many steps is found by
-- 12, DATA and NULL are those of the theory of runs, and the rows of 13 to 15, 20, 21 and 32 are the settled ones of a loop-free stage: settled for given
-- rails, with nets held low (the rails of an input, or a gate), and by the fall rule. Of M-102: "a stage without relaxed kinds" is "never to meet the
-- two fall refusals". Of M-106: "acceptance is the same under either order". Of M-108: the check "refuses" retired kinds, at the least such gate,
-- whatever the stage does in its words. Of M-111: "12 follows gates only"; 33, 34 and 35 test what the paper says; "a register counts as two wires" from
-- 28 on; each operand of a readable pipeline names a net of the sort that 9 asks for; a loop-free stage stays one when its registers become wires; and
-- the other calls, which do not read registers, give the same verdict on a stage without them, also where it is refused.
pub record Demand2 (order : WordOrder) (f : Files) (v : Verdict) : Type 0 where
  pub exactly : Comparable f → (v ≡ accepted) ↔ Acceptable f
  pub least : Judged (checks_on order f) v
  pub loops : LoopsFound (net_of (raw_in f))
  pub gates_only : (x : ℕ) → feeding (net_of (raw_in f)) x ≡ gate_steps (wiring_in f) x
  pub data_is : (r : Row) (p : Bool → ℕ) (b : Bool) → (data_of r p b ≡ true) ↔ DataOf r p b
  pub all_data_is : (r : Row) → (all_data (net_of (stage_in f)) r ≡ true) ↔ AllData (net_of (stage_in f)) r
  pub all_null_is : (r : Row) → (all_null (net_of (stage_in f)) r ≡ true) ↔ AllNull (net_of (stage_in f)) r
  pub settled_is : LoopFree (net_of (stage_in f)) → (c : Row) → TheOnly (Settled (net_of (stage_in f)) c) (risen (net_of (stage_in f)) c low)
  pub risen_is : LoopFree (net_of (stage_in f)) → (c X : Row) → TheOnly (SettledHeld (net_of (stage_in f)) c X) (risen (net_of (stage_in f)) c X)
  pub fallen_is : LoopFree (net_of (stage_in f)) → (w : ℕ) (X : Row)
      → TheOnly (SettledKept (net_of (stage_in f)) X (rest (stage_in f) w)) (fallen (net_of (stage_in f)) (rest (stage_in f) w) X)
  pub hold_only : ((net : ℕ) → IsGate (net_of (stage_in f)) net → (net_of (stage_in f)).hold net ≡ true) → ¬ ((v.number ≡ 20) ⊎ (v.number ≡ 21))
  pub either_order : (other : WordOrder) → (v ≡ accepted) ↔ (verdict_on other f ≡ accepted)
  pub wiring_is : WiringMeans (wiring_in f)
  pub wires_are : WiresMean (wiring_in f)
  pub nets_named : NoMore f.stage_most stage_limits → BothRead f → StageNamed (raw_in f)
  pub wires_free : LoopFree (net_of (raw_in f)) → Nowhere (wiring_in f) (circular (wiring_in f)) → LoopFree (net_of (stage_in f))
  pub plain : (verdict_on order (without_registers f) ≡ v) ⊎ RefusedAtPart f.stage_most f.stage
  pub retired : Comparable f → Passes (wiring_in f) → (g : ℕ) → g < length (stage_in f).gates → retired_gate (stage_in f) g ≡ true
      → ((k : ℕ) → k < g → retired_gate (stage_in f) k ≡ false) → v ≡ verdict 28 1 g 0

-- ---- demand 3

-- every list of a rise of some rails goes on to an end, and every end is this row
pub record RisesTo (N : Net) (rails end : Row) : Type 0 where
  pub goes_on : (l : List ℕ) → RiseList N rails l → GoesOn (rise_step N rails) low l
  pub end_is : (l : List ℕ) → RiseList N rails l → RiseEnd N rails l → after low l ≡ end

-- of an accepted stage, in one word w: the promise is kept; all ends of its rises are the paper's "rest"; and any two full rises, and any two full
-- falls from the rest, list the same switchings and are turned into one another by exchanging neighbours
pub record Kept (f : Files) (w : ℕ) : Type 0 where
  pub promise : Promise (net_of (stage_in f)) (rails_for w) (answer_to f w)
  pub rest-is : RisesTo (net_of (stage_in f)) (rails_for w) (rest (stage_in f) w)
  pub rises : OneFromAnother (rise_step (net_of (stage_in f)) (rails_for w)) low
  pub falls : OneFromAnother (fall_step (net_of (stage_in f))) (rest (stage_in f) w)

-- refused as wrong, incomplete or unobservable, 13, 14 and 15 in the rise of word w and 20 and 21 in its fall: the name is that of a word of the
-- stage, some run of it shows so at the output, input or gate named, and the promise is broken
pub record Broken (f : Files) (w : ℕ) (v : Verdict) : Type 0 where
  pub name : v.word < 2 ^ (stage_in f).inputs
  pub word : IsWord (stage_in f) w
  pub broken : ¬ (Promise (net_of (stage_in f)) (rails_for w) (answer_to f w))
  pub wrong : v.number ≡ 13 → (v.at < length (stage_in f).outputs) × Wrong (net_of (stage_in f)) (rails_for w) (answer_to f w) v.at
  pub incomplete : v.number ≡ 14 → (v.at < (stage_in f).inputs) × Incomplete (net_of (stage_in f)) (rails_for w) v.at
  pub unobservable : v.number ≡ 15
      → (v.at < length (stage_in f).gates) × Unobservable (net_of (stage_in f)) (rails_for w) (2 * (stage_in f).inputs + v.at)
  pub fall_incomplete_holds : v.number ≡ 20 → (v.at < (stage_in f).inputs) × FallIncomplete (net_of (stage_in f)) (rails_for w) v.at
  pub fall_unobservable_holds : v.number ≡ 21
      → (v.at < length (stage_in f).gates) × FallUnobservable (net_of (stage_in f)) (rails_for w) (2 * (stage_in f).inputs + v.at)

-- refused by 32: the gate named is the least that rises in no word of the stage, and it "stays low in every run": it is low after every list of the
-- rise of each word, and after every list of the fall from an end of that. Nothing is broken: the promise is kept as in an accepted stage
pub record Idle (f : Files) (v : Verdict) : Type 0 where
  pub is : v ≡ verdict 32 1 v.at 0
  pub gate : v.at < length (stage_in f).gates
  pub least : (g : ℕ) → g < v.at → Rises f (2 * (stage_in f).inputs + g)
  pub rise_low : (w : ℕ) → IsWord (stage_in f) w → (l : List ℕ) → RiseList (net_of (stage_in f)) (rails_for w) l
      → after low l (2 * (stage_in f).inputs + v.at) ≡ false
  pub fall_low : (w : ℕ) → IsWord (stage_in f) w → (l : List ℕ) → RiseList (net_of (stage_in f)) (rails_for w) l → RiseEnd (net_of (stage_in f)) (rails_for w) l
      → (m : List ℕ) → FallList (net_of (stage_in f)) (after low l) m → after (after low l) m (2 * (stage_in f).inputs + v.at) ≡ false
  pub kept : (w : ℕ) → IsWord (stage_in f) w → Kept f w

-- "accepted", "unless a gate never rises": as it is said of a stage that a call has written
abbrev pub AcceptedUnlessIdle : WordOrder → Files → Type 0
AcceptedUnlessIdle order f = (verdict_on order f ≡ accepted) ⊎ Idle f (verdict_on order f)

-- refused by 33, 34 or 35, in the paper's words and "in this order": the register that is named is the least, and what comes before in the order is so at
-- no register. 33 has two passes, of which the second follows where the first finds none
pub record Miswired (p : Pipeline) (v : Verdict) : Type 0 where
  pub is : v ≡ verdict v.number 1 v.at 0
  pub register : v.at < register_count p
  pub circular : v.number ≡ 33 → LeastAt (Circular p) v.at ⊎ (AtNone p (Circular p) × LeastAt (Uneven p) v.at)
  pub missing : v.number ≡ 34 → Levelled p × LeastAt (Missing p) v.at
  pub barred : v.number ≡ 35 → Levelled p × AtNone p (Missing p) × LeastAt (Barred p) v.at

-- What demand 3 says of a verdict on two files, by its number
pub record Demand3 (order : WordOrder) (f : Files) (v : Verdict) : Type 0 where
  pub kept : v.number ≡ 0 → (v ≡ accepted) × BothRead f × ((w : ℕ) → IsWord (stage_in f) w → Kept f w)
  pub broken : some (eqb v.number) (13 ∷ 14 ∷ 15 ∷ 20 ∷ 21 ∷ []) ≡ true → BothRead f × Broken f (spelled order (stage_in f).inputs v.word) v
  pub idle : v.number ≡ 32 → BothRead f × Idle f v
  pub miswired : some (eqb v.number) (33 ∷ 34 ∷ 35 ∷ []) ≡ true → BothRead f × Miswired (wiring_in f) v

-- ---- the settled-row call

-- "a settled row is what the gate rule gives": the input bytes keep their values, the gates' bytes are 1 for high and 0 for low, the row is
-- settled for its rails, no other is, and every rise of these rails ends in it
pub record RowGiven (s : Content) (before after' : List ℕ) : Type 0 where
  pub long : length after' ≡ nets (net_of s)
  pub inputs_kept : take (2 * s.inputs) after' ≡ take (2 * s.inputs) before
  pub levels : (net : ℕ) → IsGate (net_of s) net → get_or after' net 0 ≤ 1
  pub settled : TheOnly (Settled (net_of s) (rails_in before)) (rails_in after')
  pub given : RisesTo (net_of s) (rails_in before) (rails_in after')

-- a row fits a stage, of whatever kinds its gates are: no gate reaches itself, the row has a byte for each net, and its rails are legal
pub record Fits (s : Content) (row : List ℕ) : Type 0 where
  pub loop_free : LoopFree (net_of s)
  pub long : length row ≡ nets (net_of s)
  pub legal : (i : ℕ) → i < s.inputs → illegal row i ≡ false

-- "a lent row is then unchanged", or it is what the gate rule gives. Of M-108: the call "still serves" retired kinds, of which it does not ask
pub record DemandRow (stage before : List ℕ) (v : Verdict) (after' : List ℕ) : Type 0 where
  pub least : Judged (row_checks_on stage before) v
  pub loops : LoopsFound (net_of (row_stage stage))
  pub unchanged : ¬ (v ≡ accepted) → after' ≡ before
  pub given : v ≡ accepted → Pass (reading Stage stage_limits stage) × RowGiven (row_stage stage) before after'
  pub served : Pass (reading Stage stage_limits stage) → Fits (row_stage stage) before → v ≡ accepted
  pub never_28 : ¬ (v.number ≡ 28)
