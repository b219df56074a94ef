-- What loading a reference writes is its flat form.
-- Assumes nothing.
use Prim.Native.Nat.{ℕ, ◌+◌, ◌-◌, ◌*◌, ◌/◌, ◌%◌, ◌≤◌, ◌<◌}
use native.Mathlib.Omega.{arith}
use native.Mathlib.Decide.{ℕ_discrete}
use mathlib.Core.Path.{◌≡◌, refl, sym, ap, ap₂, ◌∙◌}
use mathlib.Core.Bool.{Bool, cond}
use mathlib.Core.List.{List}
use lib.ListN.{length, get_or, take, drop}
use lib.Seq.{get_or-take}
use lib.Dec.{T, eqb, eqb→eq}
use borrow.Author.Tests.{eq-eqb, ne_eqb}
use Rattle.gates.proofs.Every.{every, every_at}
use Rattle.netlist.specs.declared.File.TheVariants as file
use Rattle.netlist.specs.declared.Limits.{Limits}
use Rattle.netlist.specs.declared.Counts.{Counts}
use Rattle.netlist.specs.Bytes.{byte, operand, operands}
use Rattle.netlist.specs.Commands.{command_table, own_commands, form_in, needed}
use Rattle.netlist.specs.Reading.{reference_limits, NoMore}
use Rattle.netlist.specs.Content.{Coded, coded_at, reference_of}
use Rattle.netlist.proofs.Bounds.{within_more}
use Rattle.netlist.proofs.Readable.{operation_read, named_earlier, named_signal}
use Rattle.circuit.specs.Reference.{operation_in, operand_in, operator_in, operators_in, signal_in, signals_in, reference_in, ReferenceLoaded}
use Rattle.circuit.proofs.Tabulate.{tabulate_map}
use Rattle.circuit_load.specs.Load.{places_in, FileRead, operator_number, reference_number}
use Rattle.circuit_load.specs.Load.{WrittenTo}
use Rattle.circuit_load.proofs.Numbers.{number_operation, number_first, number_again, number_second, reference_gate, reference_output}
use Rattle.circuit_load.proofs.Reading.{nets, length_gates, length_outputs, gate_at_holds, output_place, output_at}

-- NOT needs one operand, and the others two
abbrev as_cond : ℕ → Bool
as_cond i = eqb (needed file.Reference (1 + i)) (cond (eqb (1 + i) 1) 1 2)

all_needs : T (every as_cond 6)
unfolding needed
all_needs = tt

needs : (op : ℕ) → 1 ≤ op → op ≤ 6 → needed file.Reference op ≡ cond (eqb op 1) 1 2
needs op lo hi =
    let e : 1 + (op - 1) ≡ op = omega arith in
    rw e at (eqb→eq (needed file.Reference (1 + (op - 1))) (cond (eqb (1 + (op - 1)) 1) 1 2) (every_at as_cond 6 all_needs (op - 1) (omega arith)))

module _ (most : Limits) (s places : List ℕ) (c : Counts) (code : List ℕ) (r : FileRead file.Reference most s places c)
    (room : 3 * c.gates + c.outputs ≤ length code)
    (written : WrittenTo (reference_number most s places c) code (3 * c.gates + c.outputs)) where
  -- ---- gate k

  module _ (k : ℕ) (h : k < c.gates) where
    abbrev at : ℕ
    at = get_or places k 0

    abbrev op : ℕ
    op = byte s (at + 1)

    known : (1 ≤ op) × (op ≤ 6)
    known = operation_read (gate_at_holds file.Reference most s places c r k h)

    number_at : (i j : ℕ) → i ≡ 3 * k + j → j < 3 → get_or code i 0 ≡ operator_number s at j
    number_at i j e l =
        let a : i / 3 ≡ k = omega arith in
        let b : i % 3 ≡ j = omega arith in
        written i (omega arith) ∙ sym (reference_gate most s places c i (omega arith)) ∙ rw (a, b)

    operation_at : operation_in code k ≡ op
    operation_at = number_at (3 * k) 0 (omega arith) (omega arith) ∙ sym (number_operation s at 0 refl)

    first-at : operand_in code k 0 ≡ operand s (at + 2)
    first-at = number_at (3 * k + 1) 1 refl (omega arith) ∙ sym (number_first s at 1 refl)

    again_at : op ≡ 1 → operand_in code k 1 ≡ operand s (at + 2)
    again_at e = number_at (3 * k + 2) 2 refl (omega arith) ∙ sym (number_again s at 2 (λ q. omega arith) (λ q. omega arith) e)

    second_at : (op ≡ 1 → ⊥) → operand_in code k 1 ≡ operand s (at + 4)
    second_at d = number_at (3 * k + 2) 2 refl (omega arith) ∙ sym (number_second s at 2 (λ q. omega arith) (λ q. omega arith) d)

    operator_same : operator_in code k ≡ coded_at file.Reference s at
    unfolding operands
    operator_same = go (ℕ_discrete op 1)
      where
        go : Dec (op ≡ 1) → operator_in code k ≡ coded_at file.Reference s at
        go (yes e) = rw (needs op known.0 known.1, operation_at, eq-eqb op 1 e, first-at)
        go (no d) =
            let f : at + 2 + 2 ≡ at + 4 = omega arith in
            rw (needs op known.0 known.1, operation_at, ne_eqb op 1 d, first-at, second_at d, f)

    -- operand i of the command names an input or an earlier gate
    named : (i : ℕ) → i < needed file.Reference op → operand s (at + 2 + 2 * i) < c.inputs + k
    named i l =
        named_earlier (nets file.Reference most s places c r) k i (operand s (at + 2 + 2 * i)) ((gate_at_holds file.Reference most s places c r k h).named i l)

    operand_in_lem : (i : ℕ) → i < 2 → operand_in code k i < c.inputs + k
    operand_in_lem i l = go i l (ℕ_discrete i 0) (ℕ_discrete op 1)
      where
        first : operand_in code k 0 < c.inputs + k
        first =
            let e : at + 2 + 2 * 0 ≡ at + 2 = omega arith in
            omega (arith, first-at, rw e at (named 0 (gate_at_holds file.Reference most s places c r k h).known))

        go : (i : ℕ) → i < 2 → Dec (i ≡ 0) → Dec (op ≡ 1) → operand_in code k i < c.inputs + k
        go i l (yes e) d = rw e first
        go i l (no n) (yes e) = let q : i ≡ 1 = omega arith in rw q (omega (arith, first, first-at, again_at e))
        go i l (no n) (no d) =
            let q : i ≡ 1 = omega arith in
            let e : at + 2 + 2 * 1 ≡ at + 4 = omega arith in
            let two : needed file.Reference op ≡ 2 = needs op known.0 known.1 ∙ rw (ne_eqb op 1 d) in
            rw q (omega (arith, second_at d, rw e at (named 1 (omega (arith, two)))))

  -- ---- output j

  module _ (j : ℕ) (h : j < c.outputs) where
    abbrev place : ℕ
    place = get_or places (most.gates + j) 0

    signal_at : signal_in c code j ≡ operand s (place + 1)
    signal_at =
        let e : 3 * c.gates + j - 3 * c.gates ≡ j = omega arith in
        written (3 * c.gates + j) (omega arith) ∙ sym (reference_output most s places c (3 * c.gates + j) (omega arith)) ∙ rw e

    signal_in_lem : signal_in c code j < c.inputs + c.gates
    unfolding command_table own_commands form_in
    signal_in_lem =
        let e : place + 1 + 2 * 0 ≡ place + 1 = omega arith in
        let n = (output_at file.Reference most s places c r j h).named 0 (omega arith) in
        omega (
          arith,
          signal_at,
          length_gates file.Reference most s places c r,
          rw e at (named_signal (nets file.Reference most s places c r) (length (take c.gates places)) 0 (operand s (place + 1 + 2 * 0)) n),
        )

  -- ---- the reference

  pub reference_same : reference_in c code ≡ reference_of s (places_in most c places)
  unfolding operators_in signals_in reference_of
  reference_same =
      ap₂ (λ (gs : List Coded) (os : List ℕ). record { inputs = c.inputs; gates = gs; outputs = os })
      (tabulate_map (operator_in code) (coded_at file.Reference s) (take c.gates places) c.gates
      (length_gates file.Reference most s places c r)
      (λ k h. operator_same k h ∙ ap (coded_at file.Reference s) (sym (get_or-take c.gates places k 0 h))))
      (tabulate_map (signal_in c code) (λ at. operand s (at + 1)) (take c.outputs (drop most.gates places)) c.outputs
      (length_outputs file.Reference most s places c r)
      (λ j h. signal_at j h ∙ ap (λ (at : ℕ). operand s (at + 1)) (sym (output_place file.Reference most s places c r j h))))

  pub reference_loaded : NoMore most reference_limits → ReferenceLoaded c code
  reference_loaded less = record {
    within = within_more less r.within;
    room = room;
    low = λ k h. omega (arith, operation_at k h, (known k h).0);
    high = λ k h. omega (arith, operation_at k h, (known k h).1);
    operand = λ k i h l. operand_in_lem k h i l;
    signal = signal_in_lem;
  }
