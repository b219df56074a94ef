-- A drawn reference is well-formed, so that its file is readable and gives it back.
-- Assumes nothing.
use Prim.Native.Nat.{ℕ, zero, suc, ◌+◌, ◌-◌, ◌≤◌, ◌<◌}
use native.Mathlib.Omega.{arith}
use native.Mathlib.Nat.{mod-lt}
use mathlib.Core.Path.{◌≡◌, refl, sym, ap, ◌∙◌}
use mathlib.Core.Bool.{not}
use mathlib.Core.List.{List, [], ◌∷◌}
use lib.ListN.{length, length-map}
use lib.Dec.{eqb}
use Rattle.runs.proofs.Test.{not-true}
use Rattle.netlist.specs.declared.File.TheVariants as file
use Rattle.netlist.specs.Reading.{readable, read_file, reference_limits}
use Rattle.netlist.specs.Content.{Coded, Reference, reference_of}
use Rattle.netlist.specs.Writing.{All, places_of, reference_items, write_reference, FileFits}
use Rattle.netlist.specs.Formed.{OperationFormed, FormedFrom, ReferenceFormed}
use Rattle.netlist.proofs.Lists.{All-map, All-++}
use Rattle.netlist.proofs.References.{reference_fits, read_write_reference, reference_of_write_reference}
use Rattle.verdict.proofs.Names.{in_select}
use Rattle.verdict.proofs.Words.{index_in}
use Rattle.check_spec.specs.Lists.{numbers, select, some}
use Rattle.check_spec.specs.Writing.{write_file}
use Rattle.check_spec.proofs.Back.{reference_content, reference_write}
use Rattle.make_spec.specs.Make.{reference_read}
use Rattle.check_spec.specs.Loaded.{from_reference}
use Rattle.make_spec.proofs.Lists.{all_in, among_in}
use Rattle.draw_spec.specs.Draws.{yield, advance, operands_from, gate_from, after_gate, gates_from}
use Rattle.draw_spec.specs.Drawn.{used_by, unused, drawn_reference, drawn_bytes}
use Rattle.draw_spec.proofs.Selected.{in_some, selected_below}

operands-long : (signals k s : ℕ) → length (operands_from signals k s) ≡ k
unfolding operands_from
operands-long signals zero s = refl
operands-long signals (suc k) s = ap suc (operands-long signals k (advance s))

operands_in_holds : (signals k s : ℕ) → 1 ≤ signals → All (λ v. v < signals) (operands_from signals k s)
unfolding operands_from
operands_in_holds signals zero s some = tt
operands_in_holds signals (suc k) s some = (mod-lt (yield (advance s)) some, operands_in_holds signals k (advance s) some)

gate_formed : (signals s : ℕ) → 1 ≤ signals → OperationFormed signals (gate_from signals s)
unfolding gate_from
gate_formed signals s some = record {
  operation_in_holds = (omega arith, omega arith);
  whole = operands-long _ _ _;
  operands_in_holds = operands_in_holds _ _ _ some;
}

pub gates_formed : (signals g s : ℕ) → 1 ≤ signals → FormedFrom signals (gates_from signals g s)
unfolding gates_from
gates_formed signals zero s some = tt
gates_formed signals (suc g) s some = (gate_formed signals s some, gates_formed (suc signals) g (after_gate s) (omega arith))

pub gates_long : (signals g s : ℕ) → length (gates_from signals g s) ≡ g
unfolding gates_from
gates_long signals zero s = refl
gates_long signals (suc g) s = ap suc (gates_long (suc signals) g (after_gate s))

-- a used signal comes before the last one
pub used_in : (below : ℕ) (cs : List Coded) → FormedFrom below cs → All (λ v. suc v < below + length cs) (used_by cs)
unfolding used_by
used_in below [] h = tt
used_in below (c ∷ cs) h =
    All-++ (λ v. suc v < below + suc (length cs)) c.operands (used_by cs)
    (All-map (λ v. v < below) (λ v. suc v < below + suc (length cs)) (λ v l. omega arith) c.operands h.0.operands_in_holds)
    (All-map (λ v. suc v < suc below + length cs) (λ v. suc v < below + suc (length cs)) (λ v l. omega arith) (used_by cs) (used_in (suc below) cs h.1))

-- the outputs, and the reference with its signals as the code has them
abbrev pub free : ℕ → ℕ → ℕ → List ℕ
free seed n g = select (unused (gates_from n g seed)) (numbers 0 (n + g))

abbrev pub parsed : ℕ → ℕ → ℕ → Reference
parsed seed n g = record { inputs = n; gates = gates_from n g seed; outputs = free seed n g }

drawn-is : (seed n g : ℕ) → drawn_reference seed n g ≡ from_reference (parsed seed n g)
unfolding drawn_reference
drawn-is seed n g = refl

pub bytes_are : (seed n g : ℕ) → drawn_bytes seed n g ≡ write_reference (parsed seed n g)
bytes_are seed n g = ap (write_file file.Reference) (drawn-is seed n g) ∙ reference_write (parsed seed n g)

module _ (seed n g : ℕ) (some-input : 1 ≤ n) where
  -- so that the last one is an output
  some-output : 1 ≤ length (free seed n g)
  some-output =
      let gates = gates_from n g seed in
      let last = n + g - 1 in
      let long : length gates ≡ g = gates_long n g seed in
      let none = not-true (some (eqb last) (used_by gates)) (λ e.
      let l = all_in (λ v. suc v < n + length gates) (used_by gates) (used_in n gates (gates_formed n g seed some-input)) last (among_in last (used_by gates) e) in
      omega arith) in
      in_some last (free seed n g) (in_select (unused gates) (numbers 0 (n + g)) last (index_in (n + g) last (omega arith)) (ap not none))

  module _ (low : n ≤ 10) (few : g ≤ 40) (outputs : length (drawn_reference seed n g).outputs ≤ 16) where
    pub formed : ReferenceFormed reference_limits (parsed seed n g)
    unfolding drawn_reference
    formed =
        let long : length (gates_from n g seed) ≡ g = gates_long n g seed in
        record {
          inputs_in = (some-input, low);
          gates_in_holds = omega arith;
          outputs_in_holds = (some-output, omega (arith, outputs, length-map (free seed n g) (λ (v : ℕ). v ∷ [])));
          gates_formed = gates_formed n g seed some-input;
          outputs_formed = rw long (selected_below (unused (gates_from n g seed)) (n + g));
        }

    fits : FileFits file.Reference reference_limits n (reference_items (parsed seed n g))
    fits = reference_fits reference_limits (parsed seed n g) (omega arith) (omega arith) formed

    -- "Every such file is readable"
    pub reads : read_file file.Reference reference_limits (drawn_bytes seed n g) ≡ readable (places_of file.Reference n (reference_items (parsed seed n g)))
    reads = ap (read_file file.Reference reference_limits) (bytes_are seed n g) ∙ read_write_reference reference_limits (parsed seed n g) fits

    -- as the reference that was drawn
    pub reads_as : reference_read (drawn_bytes seed n g) ≡ drawn_reference seed n g
    reads_as =
        let places = places_of file.Reference n (reference_items (parsed seed n g)) in
        let back = ap (λ (b : List ℕ). reference_of b places) (bytes_are seed n g) ∙ reference_of_write_reference reference_limits (parsed seed n g) fits in
        reference_content reference_limits (drawn_bytes seed n g) places reads ∙ ap from_reference back ∙ sym (drawn-is seed n g)
