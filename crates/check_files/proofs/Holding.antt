-- A stage file as loading leaves it: without registers the code holds its stage; with some, the pipeline that the checks of the wiring ask for, and what the
-- wired stage is to the code.
-- Assumes nothing.
use Rattle.std.specs.Prelude.{Ok, Err}
use Prim.Native.Nat.{ℕ, zero, suc, ◌+◌, ◌*◌, ◌≤◌, ◌<◌}
use native.Mathlib.Omega.{arith}
use mathlib.Core.Path.{◌≡◌, refl, sym, ap, ap₂, ◌∙◌, subst}
use mathlib.Core.Bool.{Bool, true, false}
use mathlib.Core.List.{List, [], ◌∷◌, ◌++◌, map, map-map}
use lib.ListN.{length, get_or, take, length-append}
use lib.Seq.{get_or-append-add, length-take-le, take-length}
use Rattle.netlist.specs.declared.Counts.{Counts}
use Rattle.netlist.specs.declared.File.TheVariants as file
use Rattle.netlist.specs.Bytes.{operands}
use Rattle.netlist.specs.Commands.{stage_file, needed, most_parts}
use Rattle.netlist.specs.Reading.{Places, counts_of, nets_of, readable}
use Rattle.netlist.specs.Content.{Coded, Gate, Pair, Stage, coded_at, gate_of, stage_of}
use Rattle.netlist.specs.Read.{Read}
use Rattle.netlist.proofs.Readable.{readable_read}
use Rattle.verdict.specs.FourNumbers.{Finding}
use Rattle.verdict.specs.Checks.{check, finding, or_later, first_fault, looped}
use Rattle.wiring_spec.specs.Parts.{Part, register, element, part_at, Pipeline, registers_of, register_count, part_drivers}
use Rattle.wiring_spec.specs.Wires.{resolve, times}
use Rattle.wiring_spec.specs.Wiring.{registers, circular, uneven, missing, barred}
use Rattle.wiring_spec.specs.Table.{wiring_checks}
use Rattle.wiring_spec.specs.Tables.{PartsLoaded}
use Rattle.check_spec.specs.Content.{Content, pipeline_of, content_at, wired}
use Rattle.check_spec.specs.Loaded.{pair_of, stage_view}
use Rattle.check_spec.proofs.View.{stage_view_holds}
use Rattle.circuit.specs.Stage.{net_count, stage_in, StageLoaded}
use Rattle.circuit_order.proofs.Findings.{passed_on}
use Rattle.circuit_wire.specs.Wire.{gate_by, pair_by, stage_by}
use Rattle.circuit_load.specs.Parts.{wiring_of, rail_row, ko_row, element_row, net_rows, Begins, PipelineHeld}
use Rattle.wiring_spec.proofs.Named.{long_alike, nets_count, all_named}
use Rattle.circuit_load.proofs.Holding.{held_plain}
use Rattle.circuit_load.proofs.Raw.{raw_held}
use Rattle.circuit_load.proofs.Rows.{parts_loaded}
use Rattle.check_wiring.specs.Loaded.{part_nets, Unplaced}
use Rattle.check_files.specs.Held.{StageHeld, Roomy, content_in, RegistersHeld, StageOrdered}
use Rattle.check_files.proofs.Findings.{places_none}

-- ---- the rows of the nets after the gates

rows_long : (k : ℕ) (parts : List Part) → length (net_rows k parts) ≡ 8 * length (part_drivers k parts)
unfolding net_rows part_drivers
rows_long k [] = refl
rows_long k (register r ∷ parts) = let e : k + 1 ≡ suc k = omega arith in rw e (omega (arith, rows_long (suc k) parts))
rows_long k (element pins ∷ parts) = omega (arith, rows_long k parts)

-- no C-element has a place there
rows_unplaced : (k : ℕ) (parts : List Part) → Unplaced (net_rows k parts)
unfolding net_rows
rows_unplaced k [] i = refl
rows_unplaced k (register r ∷ parts) zero = refl
rows_unplaced k (register r ∷ parts) (suc zero) = refl
rows_unplaced k (register r ∷ parts) (suc (suc zero)) = refl
rows_unplaced k (register r ∷ parts) (suc (suc (suc i))) =
    let e : 8 * suc (suc (suc i)) + 5 ≡ 24 + (8 * i + 5) = omega arith in
    rw e (get_or-append-add (rail_row r.data0 k ++ (rail_row r.data1 k ++ ko_row k)) (net_rows (k + 1) parts) (8 * i + 5) 0 ∙ rows_unplaced (k + 1) parts i)
rows_unplaced k (element pins ∷ parts) zero = refl
rows_unplaced k (element pins ∷ parts) (suc i) =
    let e : 8 * suc i + 5 ≡ 8 + (8 * i + 5) = omega arith in
    rw e (get_or-append-add (element_row pins) (net_rows k parts) (8 * i + 5) 0 ∙ rows_unplaced k parts i)

-- ---- the wired stage to the code

module _ (net : ℕ → ℕ) where
  gates-by : (gs : List Coded) → map gate_of (map (λ (g : Coded). record { code = g.code; operands = map net g.operands }) gs) ≡ map (gate_by net) (map gate_of gs)
  gates-by [] = refl
  gates-by (g ∷ gs) = ap (λ (l : List Gate). gate_by net (gate_of g) ∷ l) (gates-by gs)

  -- an output has two nets
  outputs-by : (s places : List ℕ) → map pair_of (map (map net) (map (λ at. operands s (at + 1) 2) places)) ≡ map (pair_by net) (map pair_of (map (λ at. operands s (at + 1) 2) places))
  unfolding operands
  outputs-by s [] = refl
  outputs-by s (at ∷ places) = ap (λ (l : List Pair). pair_by net (pair_of (operands s (at + 1) 2)) ∷ l) (outputs-by s places)

-- it has the nets that its own come from at its pins and outputs
wired-view : (registers : Bool) (s : List ℕ) (p : Places) → let c = content_at (stage_file registers) s (readable p) in stage_view (wired c) ≡ stage_by (resolve (pipeline_of c)) (stage_view c)
unfolding wired content_at
wired-view true s p =
    let net : ℕ → ℕ = resolve (pipeline_of (content_at file.Pipeline s (readable p))) in
    ap₂ (λ (gates : List Gate) (outputs : List Pair). record { inputs = p.inputs; gates = gates; outputs = outputs; care = p.care })
    (gates-by net (map (coded_at file.Pipeline s) p.gates)) (outputs-by net s p.outputs)
wired-view false s p =
    let net : ℕ → ℕ = resolve (pipeline_of (content_at file.Stage s (readable p))) in
    ap₂ (λ (gates : List Gate) (outputs : List Pair). record { inputs = p.inputs; gates = gates; outputs = outputs; care = p.care })
    (gates-by net (map (coded_at file.Stage s) p.gates)) (outputs-by net s p.outputs)

-- the wiring of a file, as loading has it
wiring_same : (registers : Bool) (s : List ℕ) (p : Places) → wiring_of s p ≡ pipeline_of (content_at (stage_file registers) s (readable p))
unfolding content_at needed
wiring_same registers s p =
    ap (λ (gates : List (List ℕ)). record { inputs = p.inputs; gates = gates; parts = map (part_at s) p.parts })
    (operands_same registers ∙ sym (map-map (λ (g : Coded). g.operands) (coded_at (stage_file registers) s) p.gates))
  where
    operands_same : (registers : Bool) → map (λ at. (coded_at file.Stage s at).operands) p.gates ≡ map (λ at. (coded_at (stage_file registers) s at).operands) p.gates
    operands_same true = refl
    operands_same false = refl

stage_own : (f : ℕ → ℕ) → ((x : ℕ) → f x ≡ x) → (s : Stage) → stage_by f s ≡ s
stage_own f own s = λ i. record {
  inputs = s.inputs;
  gates = same (gate_by f) (λ (g : Gate). ap (λ (l : List ℕ). record { cell = g.cell; hold = g.hold; pins = l }) (same f own g.pins)) s.gates i;
  outputs = same (pair_by f) (λ (o : Pair). ap₂ (λ (x y : ℕ). record { rail0 = x; rail1 = y }) (own o.rail0) (own o.rail1)) s.outputs i;
  care = s.care;
}
  where
    same : {A : Type 0} (f : A → A) → ((x : A) → f x ≡ x) → (xs : List A) → map f xs ≡ xs
    same f h [] = refl
    same f h (x ∷ xs) = ap₂ ◌∷◌ (h x) (same f h xs)

module _ {c : Counts} {code nets regs : List ℕ} (h : StageHeld c code nets regs) where
  read : Read (stage_file h.registers) h.most h.bytes h.places
  read = readable_read (stage_file h.registers) h.most h.bytes h.places h.reads

  -- the code holds the stage as the file has it
  pub raw_same : stage_in c code ≡ stage_view (content_in h)
  raw_same = rw h.counted (h.held.same ∙ sym (stage_view_holds h.registers h.bytes h.places))

  register_count_holds : register_count (pipeline_of (content_in h)) ≡ c.registers
  unfolding register_count content_at
  register_count_holds = (nets_count h.bytes (nets_of h.places) h.places.parts (all_named h.registers h.most h.less h.bytes h.places read)).1
      ∙ ap (λ (d : Counts). d.registers) (sym h.counted)

  -- ---- without registers

  module _ (none : c.registers ≡ 0) where
    pub plain_loaded : StageLoaded c code
    plain_loaded =
        rw h.counted (held_plain h.bytes h.places code nets regs h.held (ap (λ (d : Counts). d.registers) (sym h.counted) ∙ none))

    no_register : register_count (pipeline_of (content_in h)) ≡ 0
    no_register = register_count_holds ∙ none

    wiring_none : first_fault (wiring_checks (pipeline_of (content_in h))) ≡ Ok tt
    unfolding first_fault wiring_checks
    wiring_none =
        let p = pipeline_of (content_in h) in
        let none : (number : ℕ) (fails : ℕ → Bool) → finding (check number 1 (0 ∷ []) (registers p) (λ w. fails)) ≡ (Ok tt) =
        λ number fails. places_none number 1 (register_count p) fails (λ i l. absurd (omega (arith, no_register))) in
        passed_on _ _ (none 33 (circular p)) ∙ passed_on _ _ (none 33 (uneven p)) ∙ passed_on _ _ (none 34 (missing p)) ∙ passed_on _ _ (none 35 (barred p))

    own : (x : ℕ) → resolve (pipeline_of (content_in h)) x ≡ x
    unfolding resolve times
    own x = rw no_register

    pub plain_found : {f : Finding} → f ≡ finding (looped (stage_in c code)) → f ≡ first_fault (looped (stage_view (content_in h)) ∷ wiring_checks (pipeline_of (content_in h)))
    unfolding first_fault or_later
    plain_found {f} e =
        e ∙ ap (λ (s : Stage). finding (looped s)) raw_same ∙ sym (alone (finding (looped (stage_view (content_in h)))))
      where
        alone : (f : Finding) → or_later f (first_fault (wiring_checks (pipeline_of (content_in h)))) ≡ f
        alone (Err v) = refl
        alone (Ok _) = wiring_none

    pub plain_ordered : {code' : List ℕ} → StageOrdered c code' (stage_in c code) → StageOrdered c code' (stage_view (wired (content_in h)))
    plain_ordered o = record {
      loaded = o.loaded;
      ordered = o.ordered;
      same = o.same ∙ raw_same ∙ sym (wired-view h.registers h.bytes h.places ∙ stage_own _ own (stage_view (content_in h)));
    }

  -- ---- with registers

  pub few_parts : (c.registers ≤ most_parts) × (c.elements ≤ most_parts)
  few_parts = rw h.counted (read.registers_in, read.elements_in)

  pub part_nets_holds : Roomy nets regs → 8 * part_nets c ≤ length nets
  part_nets_holds room = omega (arith, few_parts, room.nets_room)

  -- the table of the nets, cut after its last row
  abbrev table : List ℕ
  table = take (8 * part_nets c) nets

  table_is : table ≡ net_rows 0 (wiring_of h.bytes h.places).parts
  table_is =
      let count = (nets_count h.bytes (nets_of h.places) h.places.parts (all_named h.registers h.most h.less h.bytes h.places read)).0 in
      let end : 8 * part_nets c ≡ length (net_rows 0 (wiring_of h.bytes h.places).parts) =
      rw h.counted (omega (arith, count, long_alike h.bytes h.places.parts 0, rows_long 0 (wiring_of h.bytes h.places).parts)) in
      ap (λ (n : ℕ). take n nets) end ∙ h.held.nets_begin

  table_held : PipelineHeld h.bytes h.places code table regs
  table_held = record {
    raw = h.held.raw;
    same = h.held.same;
    nets_begin = rw table_is (take-length (net_rows 0 (wiring_of h.bytes h.places).parts));
    registers_begin = h.held.registers_begin;
  }

  pub registers_held : Roomy nets regs → (c.registers ≡ 0 → ⊥) → (k : RegistersHeld c code table regs) × (k.pipeline ≡ pipeline_of (content_in h))
  registers_held room some =
      let d : Counts = counts_of h.places in
      let is = h.counted in
      let some' : d.registers ≡ 0 → ⊥ = λ e. some (ap (λ (c : Counts). c.registers) is ∙ e) in
      let wiring = wiring_same h.registers h.bytes h.places in (
        record {
          pipeline = wiring_of h.bytes h.places;
          registers_are = ap register_count wiring ∙ register_count_holds;
          few_elements = few_parts.1;
          raw_loaded = rw is (raw_held h.registers h.less read h.held some');
          parts = subst (λ (c : Counts). PartsLoaded (wiring_of h.bytes h.places) (net_count c) (part_nets c) table regs) (sym is) (parts_loaded h.registers h.less read table_held);
          long = length-take-le (8 * part_nets c) nets (part_nets_holds room);
          regs_room = omega (arith, few_parts, room.registers_room);
          unplaced = rw table_is (rows_unplaced 0 (wiring_of h.bytes h.places).parts);
        },
        wiring,
      )

  pub registers_found : (room : Roomy nets regs) (some : c.registers ≡ 0 → ⊥) {f : Finding} → f ≡ first_fault (looped (stage_in c code) ∷ wiring_checks (registers_held room some).0.pipeline)
      → f ≡ first_fault (looped (stage_view (content_in h)) ∷ wiring_checks (pipeline_of (content_in h)))
  registers_found room some e = e ∙ ap₂ (λ (s : Stage) (p : Pipeline). first_fault (looped s ∷ wiring_checks p)) raw_same (registers_held room some).1

  pub registers_ordered : (room : Roomy nets regs) (some : c.registers ≡ 0 → ⊥) {code' : List ℕ} → StageOrdered c code' (stage_by (resolve (registers_held room some).0.pipeline) (stage_in c code))
      → StageOrdered c code' (stage_view (wired (content_in h)))
  registers_ordered room some o = record {
    loaded = o.loaded;
    ordered = o.ordered;
    same = o.same ∙ ap₂ (λ (p : Pipeline) (s : Stage). stage_by (resolve p) s) (registers_held room some).1 raw_same ∙ sym (wired-view h.registers h.bytes h.places);
  }
