-- What a file holds, as the code has it: a stage with its gates' cells and pairs of rails, a reference with its signals.
-- Assumes nothing.
use Prim.Native.Nat.{ℕ, zero, suc, ◌+◌, ◌-◌, ◌*◌}
use native.Mathlib.Omega.{arith}
use mathlib.Core.Path.{◌≡◌, refl, sym, ap, ap₂, ◌∙◌, subst}
use mathlib.Core.Bool.{Bool, true, false}
use mathlib.Core.Logic.{◌⊎◌, inl, inr}
use mathlib.Core.List.{List, [], ◌∷◌, map, map-map}
use lib.ListN.{get_or, length-map}
use Rattle.gates.specs.Cell.{bit, set_expression, cells, cell_at, kind_of, pin_count}
use Rattle.runs.specs.Row.{Row}
use Rattle.netlist.specs.declared.File.{File}
use Rattle.netlist.specs.declared.File.TheVariants as file
use Rattle.netlist.specs.declared.Limits.{Limits}
use Rattle.netlist.specs.Bytes.{operand, operands}
use Rattle.netlist.specs.Commands.{stage_file, needed}
use Rattle.netlist.specs.Reading.{Places, Reading, refused, readable, read_file, RefusedAtPart, stage_limits, NoMore}
use Rattle.netlist.specs.Content as old
use Rattle.netlist.specs.Content.{Coded, Pair, coded_at, gate_of, pair_at, stage_of, reference_of, hold_of}
use Rattle.netlist.proofs.Alike.{read_alike, stage_as_pipeline}
use Rattle.netlist.proofs.Readable.{readable_read}
use Rattle.netlist.proofs.Stages as stages
use Rattle.netlist.proofs.References as references
use Rattle.runs.proofs.Test.{clash}
use Rattle.verdict.specs.declared.Verdict.{Verdict}
use Rattle.verdict.specs.declared.WordOrder.{WordOrder}
use Rattle.verdict.specs.Nets as nets
use Rattle.verdict.specs.Paths.{In}
use Rattle.wiring_spec.specs.Parts.{part_at, Pipeline}
use Rattle.wiring_spec.specs.Tables.{wiring_of}
use Rattle.wiring_spec.specs.Named.{IsData, Named}
use Rattle.wiring_spec.proofs.Named.{named, output_named}
use Rattle.check_spec.specs.Content.{Content, rails_of_output, content_at, content_of, pipeline_of, Files, raw_in, reference_in, without_registers}
use Rattle.check_spec.specs.Cases.{judge}
use Rattle.check_spec.specs.Checks.{checks}
use Rattle.check_spec.specs.Verdicts.{refusal, reading, verdict_on}
use Rattle.check_spec.specs.Demands.{Pass, StageNamed}
use Rattle.check_spec.specs.Loaded.{pair_of, stage_view, reference_view}
use Rattle.check_spec.specs.Rows.{no_gate, driver, set_in, net_of}

-- ---- files

-- a stage, and a reference, have no registers
pub stage_partless : (most : Limits) (bytes : List ℕ) → (content_of file.Stage most bytes).parts ≡ []
unfolding content_at
stage_partless most bytes = go (read_file file.Stage most bytes) refl
  where
    go : (x : Reading) → read_file file.Stage most bytes ≡ x → (content_at file.Stage bytes x).parts ≡ []
    go (refused number at) e = refl
    go (readable p) e = ap (map (part_at bytes)) (stages.no_parts most bytes p e)

pub reference_partless : (most : Limits) (bytes : List ℕ) → (content_of file.Reference most bytes).parts ≡ []
unfolding content_at
reference_partless most bytes = go (read_file file.Reference most bytes) refl
  where
    go : (x : Reading) → read_file file.Reference most bytes ≡ x → (content_at file.Reference bytes x).parts ≡ []
    go (refused number at) e = refl
    go (readable p) e = ap (map (part_at bytes)) (references.no_parts most bytes p e)

-- a pipeline that reads holds what it would as a stage, and its registers and C-elements
content_alike : (registers : Bool) (bytes : List ℕ) (p : Places) → content_at (stage_file registers) bytes (readable p) ≡ content_at file.Stage bytes (readable p)
unfolding content_at needed
content_alike false bytes p = refl
content_alike true bytes p = refl

-- what reads as a stage reads alike with registers
pub pipeline_reads : (registers : Bool) (most : Limits) (bytes : List ℕ) {c : Content} → Pass (reading file.Stage most bytes) × (content_of file.Stage most bytes ≡ c)
    → Pass (reading (stage_file registers) most bytes) × (content_of (stage_file registers) most bytes ≡ c)
unfolding refusal
pipeline_reads registers most bytes {c} h = go (read_file file.Stage most bytes) refl h.0 h.1
  where
    alike : (registers : Bool) (p : Places) → read_file file.Stage most bytes ≡ readable p → read_file (stage_file registers) most bytes ≡ readable p
    alike false p e = e
    alike true p e = stage_as_pipeline most bytes p e

    go : (x : Reading) → read_file file.Stage most bytes ≡ x → Pass (refusal file.Stage x) → content_at file.Stage bytes x ≡ c
        → Pass (refusal (stage_file registers) (read_file (stage_file registers) most bytes)) × (content_at (stage_file registers) bytes (read_file (stage_file registers) most bytes) ≡ c)
    go (refused number at) e pass is = absurd (clash refl pass.0)
    go (readable p) e pass is = rw (alike registers p e) (tt, content_alike registers bytes p ∙ is)

pub stage_view_holds : (registers : Bool) (bytes : List ℕ) (p : Places) → stage_view (content_at (stage_file registers) bytes (readable p)) ≡ stage_of bytes p
unfolding content_at stage_of operands
stage_view_holds registers bytes p =
    ap stage_view (content_alike registers bytes p) ∙
    ap₂ (λ (gates : List old.Gate) (outputs : List Pair). record { inputs = p.inputs; gates = gates; outputs = outputs; care = p.care })
    (map-map gate_of (coded_at file.Stage bytes) p.gates) (pairs p.outputs)
  where
    pairs : (places : List ℕ) → map pair_of (map (λ at. operands bytes (at + 1) 2) places) ≡ map (pair_at bytes) places
    pairs [] = refl
    pairs (at ∷ places) = let e : at + 1 + 2 ≡ at + 3 = omega arith in rw e (ap (λ (l : List Pair). pair_at bytes at ∷ l) (pairs places))

pub reference_view_holds : (bytes : List ℕ) (p : Places) → reference_view (content_at file.Reference bytes (readable p)) ≡ reference_of bytes p
unfolding content_at reference_of operands
reference_view_holds bytes p =
    ap (λ (outputs : List ℕ). record { inputs = p.inputs; gates = map (coded_at file.Reference bytes) p.gates; outputs = outputs }) (signals p.outputs)
  where
    signals : (places : List ℕ) → map (λ (vs : List ℕ). get_or vs 0 0) (map (λ at. operands bytes (at + 1) 1) places) ≡ map (λ at. operand bytes (at + 1)) places
    signals [] = refl
    signals (at ∷ places) = ap (λ (l : List ℕ). operand bytes (at + 1) ∷ l) (signals places)

-- the verdict is the same where the stage is read without registers, unless it is refused at one
pub plain_verdict : (order : WordOrder) (f : Files) → (verdict_on order (without_registers f) ≡ verdict_on order f) ⊎ RefusedAtPart f.stage_most f.stage
unfolding content_at refusal
plain_verdict order f = go f.registers (read_alike f.stage_most f.stage)
  where
    judge_of : File → Reading → Verdict
    judge_of k x = judge (refusal k x ∷ reading file.Reference f.reference_most f.reference ∷ checks order (content_at k f.stage x) (reference_in f))

    same : (x : Reading) → judge_of file.Stage x ≡ judge_of file.Pipeline x
    same (refused number at) = refl
    same (readable p) = ap (λ (c : Content). judge ([] ∷ reading file.Reference f.reference_most f.reference ∷ checks order c (reference_in f))) (sym (content_alike true f.stage p))

    go : (b : Bool) → (read_file file.Pipeline f.stage_most f.stage ≡ read_file file.Stage f.stage_most f.stage) ⊎ RefusedAtPart f.stage_most f.stage
        → (verdict_on order (without_registers f) ≡ judge_of (stage_file b) (read_file (stage_file b) f.stage_most f.stage)) ⊎ RefusedAtPart f.stage_most f.stage
    go b (inr r) = inr r
    go false (inl e) = inl refl
    go true (inl e) = inl (same (read_file file.Stage f.stage_most f.stage) ∙ ap (judge_of file.Pipeline) (sym e))

-- ---- how it is wired

wiring_view : (registers : Bool) (bytes : List ℕ) (p : Places) → pipeline_of (content_at (stage_file registers) bytes (readable p)) ≡ wiring_of bytes p
unfolding content_at
wiring_view registers bytes p =
    ap pipeline_of (content_alike registers bytes p) ∙
    ap (λ (gates : List (List ℕ)). record { inputs = p.inputs; gates = gates; parts = map (part_at bytes) p.parts })
    (map-map (λ (g : Coded). g.operands) (coded_at file.Stage bytes) p.gates)

-- where a stage is readable every operand names what its role asks for: the nets that reading counts are those that are driven
pub wiring_named : (f : Files) → NoMore f.stage_most stage_limits → Pass (reading (stage_file f.registers) f.stage_most f.stage) → StageNamed (raw_in f)
unfolding refusal content_at
wiring_named f less pass = go (read_file (stage_file f.registers) f.stage_most f.stage) refl pass
  where
    rails : (registers : Bool) (places : List ℕ) (j v : ℕ) → In v (get_or (map (λ at. operands f.stage (at + 1) (rails_of_output (stage_file registers))) places) j [])
        → In v (get_or (map (λ at. operands f.stage (at + 1) 2) places) j [])
    rails true places j v i = i
    rails false places j v i = i

    go : (x : Reading) → read_file (stage_file f.registers) f.stage_most f.stage ≡ x → Pass (refusal (stage_file f.registers) x) →
        StageNamed (content_at (stage_file f.registers) f.stage x)
    go (refused number at) e pass = absurd (clash refl pass.0)
    go (readable p) e pass =
        let read = readable_read (stage_file f.registers) f.stage_most f.stage p e in
        let at = sym (wiring_view f.registers f.stage p) in
        record {
          wiring = subst Named at (named f.registers f.stage_most less f.stage p read);
          outputs = λ j v i. subst (λ (q : Pipeline). IsData q v) at (output_named f.registers f.stage_most less f.stage p read j v (rails f.registers p.outputs j v i));
        }

-- ---- the net

module _ (c : Content) where
  pub driver_view : (net : ℕ) → (nets.driver (stage_view c) net).pins ≡ (driver c net).operands
  driver_view net = pins c.gates (net - 2 * c.inputs)
    where
      pins : (gates : List Coded) (k : ℕ) → (get_or (map gate_of gates) k nets.no_gate).pins ≡ (get_or gates k no_gate).operands
      pins [] k = refl
      pins (g ∷ gates) zero = refl
      pins (g ∷ gates) (suc k) = pins gates k

  pub hold_view : (net : ℕ) → (nets.driver (stage_view c) net).hold ≡ hold_of (kind_of (driver c net).code)
  unfolding kind_of cells pin_count cell_at
  hold_view net = at c.gates (net - 2 * c.inputs)
    where
      at : (gates : List Coded) (k : ℕ) → (get_or (map gate_of gates) k nets.no_gate).hold ≡ hold_of (kind_of (get_or gates k no_gate).code)
      at [] k = refl
      at (g ∷ gates) zero = refl
      at (g ∷ gates) (suc k) = at gates k

  pub fires_view : (row : Row) (net : ℕ) → nets.set_in row (nets.driver (stage_view c) net) ≡ set_in row (driver c net)
  unfolding set_expression kind_of cells pin_count cell_at
  fires_view row net = at c.gates (net - 2 * c.inputs)
    where
      at : (gates : List Coded) (k : ℕ) → nets.set_in row (get_or (map gate_of gates) k nets.no_gate) ≡ set_in row (get_or gates k no_gate)
      at [] k = refl
      at (g ∷ gates) zero = refl
      at (g ∷ gates) (suc k) = at gates k

  pub rail_view : (j : ℕ) (b : Bool) → nets.rail_of (nets.output_pair (stage_view c) j) b ≡ get_or (get_or c.outputs j []) (bit b) 0
  rail_view j b = at c.outputs j b
    where
      at : (outputs : List (List ℕ)) (k : ℕ) (b : Bool) → nets.rail_of (get_or (map pair_of outputs) k nets.no_pair) b ≡ get_or (get_or outputs k []) (bit b) 0
      at [] k true = refl
      at [] k false = refl
      at (o ∷ outputs) zero true = refl
      at (o ∷ outputs) zero false = refl
      at (o ∷ outputs) (suc k) b = at outputs k b

  pub net_view : nets.net_of (stage_view c) ≡ net_of c
  net_view = λ i. record {
    inputs = c.inputs;
    gates = length-map c.gates gate_of i;
    outputs = length-map c.outputs pair_of i;
    rail = λ j b. rail_view j b i;
    pins = λ net. driver_view net i;
    fires = λ row net. fires_view row net i;
    hold = λ net. hold_view net i;
  }
