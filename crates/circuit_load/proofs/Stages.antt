-- What loading a stage writes is its flat form.
-- Assumes nothing.
use Prim.Native.Nat.{ℕ, zero, suc, ◌+◌, ◌-◌, ◌*◌, ◌/◌, ◌%◌, ◌≤◌, ◌<◌}
use native.Mathlib.Omega.{arith}
use mathlib.Core.Path.{◌≡◌, refl, sym, ap, ap₂, ◌∙◌, subst}
use mathlib.Core.Bool.{Bool, true, false}
use mathlib.Core.List.{List, [], ◌∷◌, map-id}
use lib.ListN.{length, get_or, take, drop}
use lib.Seq.{get_or-take}
use lib.Dec.{eqb}
use Rattle.gates.specs.Cell.{kind_of, as_kind, pin_count, bit}
use Rattle.gates.proofs.Ranges.{kind_at}
use Rattle.netlist.specs.declared.File.{File}
use Rattle.netlist.specs.declared.File.TheVariants as file
use Rattle.netlist.specs.declared.Limits.{Limits}
use Rattle.netlist.specs.declared.Counts.{Counts}
use Rattle.netlist.specs.Bytes.{byte, operand, operands}
use Rattle.netlist.specs.Commands.{stage_file, needed}
use Rattle.netlist.specs.Reading.{Nets, carries_data, nets_of, stage_limits, NoMore}
use Rattle.netlist.specs.Content.{Gate, Pair, cell_of, hold_of, gate_of, coded_at, pair_at, stage_of}
use Rattle.netlist.proofs.Bounds.{within_more}
use Rattle.netlist.proofs.Encoding.{KindOfCell, kind_in_holds, kind_needs}
use Rattle.read_file.specs.Files.{first_care}
use Rattle.circuit.specs.Stage.{cell_in, slot, pin_in, gate_in, stage_gates, output_in, stage_outputs, stage_care, stage_in}
use Rattle.circuit.proofs.Tabulate.{tabulate_map}
use Rattle.circuit.proofs.Pins.{pins_few}
use Rattle.circuit_load.specs.Load.{places_in, FileRead, StageRead, RawStage, pin_number, cell_row, kind_row, gate_row, gates_number, stage_number, WrittenTo}
use Rattle.circuit_load.proofs.Numbers.{pin_there, pin_absent, gate_number, stage_gate_holds, stage_later, output_rail_holds, output_care}
use Rattle.circuit_load.proofs.Reading.{length_gates, length_outputs, output_place, care_word, length_care, kind_known, pin_data, rail_data}

-- the operands that a gate of m pins needs are the first m of four
operands-first : (s : List ℕ) (at ground m : ℕ) → 2 ≤ m → m ≤ 4 →
    take m (pin_number s at m ground 0 ∷ pin_number s at m ground 1 ∷ pin_number s at m ground 2 ∷ pin_number s at m ground 3 ∷ []) ≡ operands s
    (at + 2) m
unfolding pin_number operands
operands-first s at ground zero two four = absurd (omega arith)
operands-first s at ground (suc zero) two four = absurd (omega arith)
operands-first s at ground (suc (suc zero)) two four =
    let a : at + 2 + 2 * 0 ≡ at + 2 = omega arith in
    let b : at + 2 + 2 * 1 ≡ at + 2 + 2 = omega arith in
    rw (a, b)
operands-first s at ground (suc (suc (suc zero))) two four =
    let a : at + 2 + 2 * 0 ≡ at + 2 = omega arith in
    let b : at + 2 + 2 * 1 ≡ at + 2 + 2 = omega arith in
    let c : at + 2 + 2 * 2 ≡ at + 2 + 2 + 2 = omega arith in
    rw (a, b, c)
operands-first s at ground (suc (suc (suc (suc zero)))) two four =
    let a : at + 2 + 2 * 0 ≡ at + 2 = omega arith in
    let b : at + 2 + 2 * 1 ≡ at + 2 + 2 = omega arith in
    let c : at + 2 + 2 * 2 ≡ at + 2 + 2 + 2 = omega arith in
    let d : at + 2 + 2 * 3 ≡ at + 2 + 2 + 2 + 2 = omega arith in
    rw (a, b, c, d)
operands-first s at ground (suc (suc (suc (suc (suc m))))) two four = absurd (omega arith)

module _ (most : Limits) (s places : List ℕ) (c : Counts) (code : List ℕ) (ground : ℕ) (r : StageRead most s places c)
    (room : 8 * c.gates + 2 * c.outputs + c.care ≤ length code) (written : WrittenTo (stage_number most s places c ground) code (8 * c.gates + 2 * c.outputs + c.care)) where
  abbrev f : File
  f = stage_file r.registers

  abbrev read : FileRead f most s places c
  read = r.file_read

  abbrev N : Nets
  N = nets_of (places_in most c places)

  -- ---- gate k

  module _ (k : ℕ) (h : k < c.gates) where
    abbrev at : ℕ
    at = get_or places k 0

    abbrev kind : ℕ
    kind = byte s (at + 1)

    of : KindOfCell kind
    of = kind_in_holds kind (kind_known most s places c r k h)

    abbrev cell : ℕ
    cell = of.cell

    kind_of_lem : kind_of kind ≡ as_kind of.hold cell (pin_count cell)
    kind_of_lem = kind_at of.hold kind cell (pin_count cell) of.kind_is of.cell_in.0 of.cell_in.1 refl

    needs_pins : needed file.Stage kind ≡ pin_count cell
    needs_pins = ap (needed file.Stage) of.kind_is ∙ kind_needs of.hold cell of.cell_in.0 of.cell_in.1

    row_is : gate_row s at ground ≡ cell_row s at cell (pin_count cell) (bit of.hold) ground
    unfolding gate_row
    row_is = rw kind_of_lem (go of.hold)
      where
        go : (hold : Bool) → kind_row (as_kind hold cell (pin_count cell)) s at ground ≡ cell_row s at cell (pin_count cell) (bit hold) ground
        go true = refl
        go false = refl

    -- number j of the gate stands where i says
    number_at : (i j : ℕ) → i ≡ 8 * k + j → j < 8 → get_or code i 0 ≡ get_or (cell_row s at cell (pin_count cell) (bit of.hold) ground) j 0
    number_at i j e l =
        written i (omega arith) ∙ sym (stage_gate_holds most s places c ground i (omega arith)) ∙ ap (gates_number s places ground) e ∙ sym (gate_number s places ground k j l)
        ∙ ap (λ (row : List ℕ). get_or row j 0) row_is

    cell_at : cell_in code k ≡ cell
    cell_at = number_at (8 * k) 0 (omega arith) (omega arith)

    pin_at : (i : ℕ) → i < 4 → pin_in code k i ≡ pin_number s at (pin_count cell) ground i
    pin_at i l = number_at (8 * k + (1 + i)) (1 + i) refl (omega arith) ∙ go i l
      where
        go : (i : ℕ) → i < 4 → get_or (cell_row s at cell (pin_count cell) (bit of.hold) ground) (1 + i) 0 ≡ pin_number s at (pin_count cell) ground i
        go zero l = refl
        go (suc zero) l = refl
        go (suc (suc zero)) l = refl
        go (suc (suc (suc zero))) l = refl
        go (suc (suc (suc (suc i)))) l = absurd (omega arith)

    hold_at : slot code k 7 ≡ bit of.hold
    hold_at = number_at (8 * k + 7) 7 refl (omega arith)

    -- the cell and the hold of its kind
    kind_says : (hold : Bool) → (cell_of (as_kind hold cell (pin_count cell)) ≡ cell) × (hold_of (as_kind hold cell (pin_count cell)) ≡ eqb (bit hold) 1)
    kind_says true = (refl, refl)
    kind_says false = (refl, refl)

    gate_same : gate_in code k ≡ gate_of (coded_at file.Stage s at)
    gate_same =
        let few = pins_few cell of.cell_in.0 of.cell_in.1 in
        rw (
          kind_of_lem,
          (kind_says of.hold).0,
          (kind_says of.hold).1,
          needs_pins,
          cell_at,
          hold_at,
          pin_at 0 (omega arith),
          pin_at 1 (omega arith),
          pin_at 2 (omega arith),
          pin_at 3 (omega arith),
          operands-first s at ground (pin_count cell) few.0 few.1,
        )

    pin_carries : (i : ℕ) → i < pin_count (cell_in code k) → carries_data N (pin_in code k i) ≡ true
    pin_carries i l =
        let few = pins_few cell of.cell_in.0 of.cell_in.1 in
        let d : i < pin_count cell = subst (λ (x : ℕ). i < pin_count x) cell_at l in
        ap (carries_data N) (pin_at i (omega (arith, few.1)) ∙ sym (pin_there s at ground (pin_count cell) i d)) ∙ pin_data most s places c r k h i (omega (arith, needs_pins))

    pin_lacks : (i : ℕ) → pin_count (cell_in code k) ≤ i → i < 4 → pin_in code k i ≡ ground
    pin_lacks i l b = pin_at i b ∙ sym (pin_absent s at ground (pin_count cell) i (subst (λ (x : ℕ). pin_count x ≤ i) cell_at l))

  -- ---- output j

  module _ (j : ℕ) (h : j < c.outputs) where
    abbrev place : ℕ
    place = get_or places (most.gates + j) 0

    rail_at : (i b : ℕ) → i ≡ 8 * c.gates + 2 * j + b → b < 2 → get_or code i 0 ≡ operand s (place + 1 + 2 * b)
    rail_at i b e l =
        let p : (2 * j + b) / 2 ≡ j = omega arith in
        let q : (2 * j + b) % 2 ≡ b = omega arith in
        let n : i ≡ 8 * c.gates + (2 * j + b) = omega arith in
        written i (omega arith) ∙ ap (stage_number most s places c ground) n ∙ sym (stage_later most s places c ground (2 * j + b))
        ∙ sym (output_rail_holds most s places c (2 * j + b) (omega arith)) ∙ rw (p, q)

    rail-carries : (i b : ℕ) → i ≡ 8 * c.gates + 2 * j + b → b < 2 → carries_data N (get_or code i 0) ≡ true
    rail-carries i b e l = ap (carries_data N) (rail_at i b e l) ∙ rail_data most s places c r j h b l

    output_same : output_in c code j ≡ pair_at s place
    output_same =
        let a : place + 1 + 2 * 0 ≡ place + 1 = omega arith in
        let b : place + 1 + 2 * 1 ≡ place + 3 = omega arith in
        ap₂ (λ (x y : ℕ). record { rail0 = x; rail1 = y })
        (rail_at (8 * c.gates + 2 * j) 0 (omega arith) (omega arith) ∙ ap (operand s) a)
        (rail_at (8 * c.gates + 2 * j + 1) 1 refl (omega arith) ∙ ap (operand s) b)

  -- ---- care words

  care_at : (k : ℕ) → k < c.care → get_or code (8 * c.gates + 2 * c.outputs + k) 0 ≡ get_or places (first_care most + k) 0
  care_at k h =
      let e : 2 * c.outputs + k - 2 * c.outputs ≡ k = omega arith in
      let n : 8 * c.gates + 2 * c.outputs + k ≡ 8 * c.gates + (2 * c.outputs + k) = omega arith in
      written (8 * c.gates + 2 * c.outputs + k) (omega arith) ∙ ap (stage_number most s places c ground) n
      ∙ sym (stage_later most s places c ground (2 * c.outputs + k)) ∙ sym (output_care most s places c (2 * c.outputs + k) (omega arith)) ∙ rw e

  -- ---- the stage

  abbrev cares : List ℕ
  cares = take c.care (drop (first_care most) places)

  pub stage_same : stage_in c code ≡ stage_of s (places_in most c places)
  unfolding stage_gates stage_outputs stage_care stage_of
  stage_same =
      ap (λ (ws : List ℕ). record { inputs = c.inputs; gates = stage_gates c code; outputs = stage_outputs c code; care = ws })
      (tabulate_map (λ k. get_or code (8 * c.gates + 2 * c.outputs + k) 0) (λ w. w) cares c.care (length_care f most s places c read)
      (λ k h. care_at k h ∙ sym (care_word f most s places c read k h)) ∙ map-id cares)
      ∙ ap₂ (λ (gs : List Gate) (ps : List Pair). record { inputs = c.inputs; gates = gs; outputs = ps; care = cares })
      (tabulate_map (gate_in code) (λ at. gate_of (coded_at file.Stage s at)) (take c.gates places) c.gates (length_gates f most s places c read)
      (λ k h. gate_same k h ∙ ap (λ (at : ℕ). gate_of (coded_at file.Stage s at)) (sym (get_or-take c.gates places k 0 h))))
      (tabulate_map (output_in c code) (pair_at s) (take c.outputs (drop most.gates places)) c.outputs
      (length_outputs f most s places c read)
      (λ j h. output_same j h ∙ ap (pair_at s) (sym (output_place f most s places c read j h))))

  pub raw_loaded : NoMore most stage_limits → RawStage N c ground code
  raw_loaded less = record {
    within = within_more less read.within;
    room = room;
    low = λ k h. omega (arith, cell_at k h, (of k h).cell_in.0);
    high = λ k h. omega (arith, cell_at k h, (of k h).cell_in.1);
    pin = λ k i h. pin_carries k h i;
    lacks = λ k i h. pin_lacks k h i;
    rail0 = λ j h. rail-carries j h (8 * c.gates + 2 * j) 0 (omega arith) (omega arith);
    rail1 = λ j h. rail-carries j h (8 * c.gates + 2 * j + 1) 1 refl (omega arith);
  }
