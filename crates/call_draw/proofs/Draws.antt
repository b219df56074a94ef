-- One drawn gate as the code has it, and the gates that are left.
-- Assumes nothing.
use Rattle.std.proofs.Common.{◌≡◌, ℕ, zero, suc, ◌+◌, ◌-◌, ◌%◌, ◌<◌, ◌≤◌, false, eqb, [], ◌∷◌, sym, refl, ap, ◌∙◌, arith, ne_eqb}
use Rattle.netlist.specs.declared.File.TheVariants as file
use Rattle.netlist.specs.Commands.{needed}
use Rattle.netlist.specs.Content.{Coded}
use Rattle.netlist.specs.Writing.{gate, write_item}
use Rattle.write_command.proofs.Files.{gate_absent}
use Rattle.draw_spec.specs.Draws.{yield, advance, draw, after, operation_from, needed_from, operands_from, gate_from, after_gate, gates_from}
use Rattle.call_draw.specs.Steps.{GateDrawn}

-- the other five operations need two operands
two_needed : (d : ℕ) → d < 5 → needed file.Reference (suc (suc d)) ≡ 2
unfolding needed
two_needed zero l = refl
two_needed (suc zero) l = refl
two_needed (suc (suc zero)) l = refl
two_needed (suc (suc (suc zero))) l = refl
two_needed (suc (suc (suc (suc zero)))) l = refl
two_needed (suc (suc (suc (suc (suc d))))) l = absurd (omega arith)

module _ (signals s : ℕ) where
  gate-one : operation_from s ≡ 1 → gate_from signals s ≡ record { code = 1; operands = draw (advance s) signals ∷ [] }
  unfolding gate_from operands_from needed
  gate-one e = rw e

  after_one : operation_from s ≡ 1 → after_gate s ≡ advance (advance s)
  unfolding after_gate after needed
  after_one e = rw e

  gate-two : needed_from s ≡ 2
      → gate_from signals s ≡ record { code = operation_from s; operands = draw (advance s) signals ∷ draw (advance (advance s)) signals ∷ [] }
  unfolding gate_from operands_from
  gate-two e = rw e

  after_two : needed_from s ≡ 2 → after_gate s ≡ advance (advance (advance s))
  unfolding after_gate after
  after_two e = rw e

needs_two : (v : ℕ) → (1 + v ≡ 1 → ⊥) → v < 6 → needed file.Reference (1 + v) ≡ 2
needs_two zero other l = absurd (other refl)
needs_two (suc d) other l = let e : 1 + suc d ≡ suc (suc d) = omega arith in rw e (two_needed d (omega arith))

-- what `draw_gate` computes, in its order
module _ (signals s one two v f : ℕ) (a : one ≡ advance s) (b : v ≡ yield one % 6) (c : two ≡ advance one) (d : f ≡ yield two % signals)
    (inside : f < signals) where
  drawn-operation : operation_from s ≡ 1 + v
  drawn-operation = rw (b, a)

  drawn-first : draw (advance s) signals ≡ f
  drawn-first = rw (d, c, a)

  pub drawn_one : 1 + v ≡ 1 → GateDrawn signals s (record { operation = 1; first = f; second = 65535; state = two })
  drawn_one lone =
      let whole : gate_from signals s ≡ record { code = 1; operands = f ∷ [] } = rw (← drawn-first) (gate-one signals s (drawn-operation ∙ lone)) in
      record {
        command = gate_absent file.Reference 1 (f ∷ []) 1 ∙ sym (ap (λ (g : Coded). write_item file.Reference (gate g)) whole);
        operands = ap (λ (g : Coded). g.operands) whole;
        state = rw (c, a) (sym (after_one signals s (drawn-operation ∙ lone)));
        first_in = inside;
        second_in = λ other. absurd (other refl);
      }

  pub drawn_two : (three h : ℕ) → three ≡ advance two → h ≡ yield three % signals → h < signals → v < 6 → (1 + v ≡ 1 → ⊥)
      → GateDrawn signals s (record { operation = 1 + v; first = f; second = h; state = three })
  drawn_two three h e k within low other =
      let needs : needed_from s ≡ 2 = rw drawn-operation (needs_two v other low) in
      let second : draw (advance (advance s)) signals ≡ h = rw (k, e, c, a) in
      let whole : gate_from signals s ≡ record { code = 1 + v; operands = f ∷ h ∷ [] } =
      rw (← drawn-first, ← second, ← drawn-operation) (gate-two signals s needs) in
      let lone : eqb (1 + v) 1 ≡ false = ne_eqb (1 + v) 1 other in
      record {
        command = sym (ap (λ (g : Coded). write_item file.Reference (gate g)) whole);
        operands = rw lone (ap (λ (g : Coded). g.operands) whole);
        state = rw (e, c, a) (sym (after_two signals s needs));
        first_in = inside;
        second_in = λ _. within;
      }

-- g - k gates that are left: the next one, and those after it
pub turn : (n g k s : ℕ) → k < g → gates_from (n + k) (g - k) s ≡ gate_from (n + k) s ∷ gates_from (n + (k + 1)) (g - (k + 1)) (after_gate s)
unfolding gates_from
turn n g k s l =
    let a : g - k ≡ suc (g - (k + 1)) = omega arith in
    let b : n + (k + 1) ≡ suc (n + k) = omega arith in
    rw (a, b)

pub no_turn : (n g k s : ℕ) → g ≤ k → gates_from (n + k) (g - k) s ≡ []
unfolding gates_from
no_turn n g k s l = let a : g - k ≡ 0 = omega arith in rw a
