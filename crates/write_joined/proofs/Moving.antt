-- The nets and the signals of a part in the whole: what the flat forms hold of them, and that a gate is put with FFFF at the pins that it has not.
-- Assumes nothing.
use Prim.Native.Nat.{ℕ, ◌+◌, ◌-◌, ◌*◌, ◌/◌, ◌%◌, ◌≤◌, ◌<◌}
use native.Mathlib.Omega.{arith}
use mathlib.Core.Path.{◌≡◌, refl, sym}
use mathlib.Core.Bool.{Bool, true, false, cond}
use mathlib.Core.Logic.{◌⊎◌, inl, inr}
use mathlib.Core.List.{List, [], ◌∷◌, map}
use lib.ListN.{take}
use lib.Dec.{eqb, ltb}
use borrow.Author.Tests.{lt-ltb, le-ltb, ltb-true, ltb-false, eq-eqb, ne_eqb}
use Rattle.gates.specs.Cell.{pin_count}
use Rattle.gates.proofs.Ranges.{pins_in_range, two_pins_holds, three_pins, four_pins_holds}
use Rattle.netlist.specs.declared.File.TheVariants as file
use Rattle.netlist.specs.declared.Counts.{Counts}
use Rattle.netlist.specs.Bytes.{absent}
use Rattle.netlist.specs.Writing.{gate, write_item}
use Rattle.verdict.specs.Nets.{no_pair, rail_of}
use Rattle.write_command.specs.Put.{coded}
use Rattle.write_command.proofs.Files.{gate_absent}
use Rattle.circuit.specs.Stage.{output_in, stage_outputs, stage_in}
use Rattle.circuit.specs.Reference.{signal_in, signals_in, reference_in}
use Rattle.circuit.proofs.Tabulate.{get_d_tabulate}
use Rattle.write_joined.specs.declared.Move.{Move}
use Rattle.write_joined.specs.Moved.{net_moved, signal_moved}

-- ---- nets

module _ (c : Counts) (code : List ℕ) (m : Move) (net : ℕ) where
  pub net_tied : net < 2 * m.inputs → m.inputs ≤ c.outputs → (b : Bool) → eqb (net % 2) 1 ≡ b
      → rail_of (output_in c code (net / 2)) b ≡ net_moved (stage_in c code) m net
  unfolding net_moved stage_outputs
  net_tied l h b e = rw (lt-ltb net (2 * m.inputs) l, e, get_d_tabulate (output_in c code) c.outputs (net / 2) no_pair (omega arith))

  pub net_follows : 2 * m.inputs ≤ net → m.start + (net - 2 * m.inputs) ≡ net_moved (stage_in c code) m net
  unfolding net_moved
  net_follows l = rw (le-ltb net (2 * m.inputs) l)

-- ---- signals

module _ (c : Counts) (code : List ℕ) (m : Move) (signal : ℕ) where
  pub signal_tied : signal < m.inputs → m.inputs ≤ c.outputs → signal_in c code signal ≡ signal_moved (reference_in c code) m signal
  unfolding signal_moved signals_in
  signal_tied l h = rw (lt-ltb signal m.inputs l) (sym (get_d_tabulate (signal_in c code) c.outputs signal 0 (omega arith)))

  pub signal_follows : m.inputs ≤ signal → m.start + (signal - m.inputs) ≡ signal_moved (reference_in c code) m signal
  unfolding signal_moved
  signal_follows l = rw (le-ltb signal m.inputs l)

-- ---- pins

-- a cell has two, three or four pins
pub pins_of : (cell : ℕ) → 1 ≤ cell → cell ≤ 27 → (pin_count cell ≡ 2) ⊎ (pin_count cell ≡ 3) ⊎ (pin_count cell ≡ 4)
pins_of cell l h = go (ltb cell 3) refl (ltb cell 8) refl
  where
    go : (a : Bool) → ltb cell 3 ≡ a → (b : Bool) → ltb cell 8 ≡ b → (pin_count cell ≡ 2) ⊎ (pin_count cell ≡ 3) ⊎ (pin_count cell ≡ 4)
    go true e b e' = inl (pins_in_range 1 2 2 two_pins_holds cell (omega arith) (omega (arith, ltb-true cell 3 e)))
    go false e true e' = inr (inl (pins_in_range 3 5 3 three_pins cell (omega (arith, ltb-false cell 3 e)) (omega (arith, ltb-true cell 8 e'))))
    go false e false e' = inr (inr (pins_in_range 8 20 4 four_pins_holds cell (omega (arith, ltb-false cell 8 e')) (omega arith)))

-- four operands, FFFF where the gate has no pin, are written as the gate's pins are
module _ (kind n : ℕ) (move pin : ℕ → ℕ) where
  abbrev operand_for : ℕ → ℕ
  operand_for i = cond (ltb i n) (move (pin i)) absent

  pub four_operands : (n ≡ 2) ⊎ (n ≡ 3) ⊎ (n ≡ 4) → write_item file.Stage (gate (coded kind (operand_for 0 ∷ operand_for 1 ∷ operand_for 2 ∷ operand_for 3 ∷ [])))
      ≡ write_item file.Stage (gate (coded kind (map move (take n (pin 0 ∷ pin 1 ∷ pin 2 ∷ pin 3 ∷ [])))))
  four_operands (inl e) = rw e (gate_absent file.Stage kind (move (pin 0) ∷ move (pin 1) ∷ []) 2)
  four_operands (inr (inl e)) = rw e (gate_absent file.Stage kind (move (pin 0) ∷ move (pin 1) ∷ move (pin 2) ∷ []) 1)
  four_operands (inr (inr e)) = rw e

-- a gate with equal kind and operands
pub five_equal : {kind kind' a a' b b' c c' d d' : ℕ} → kind ≡ kind' → a ≡ a' → b ≡ b' → c ≡ c' → d ≡ d' →
    write_item file.Stage (gate (coded kind (a ∷ b ∷ c ∷ d ∷ []))) ≡ write_item file.Stage (gate (coded kind' (a' ∷ b' ∷ c' ∷ d' ∷ [])))
five_equal e ea eb ec ed = rw (e, ea, eb, ec, ed)

-- ---- operations

-- of an operation, 1 is NOT, which has one operand
module _ (move : ℕ → ℕ) (v w : ℕ) {operation code a : ℕ} (same : operation ≡ code) where
  pub one_operand : code ≡ 1 → a ≡ move v → write_item file.Reference (gate (coded operation (a ∷ absent ∷ [])))
      ≡ write_item file.Reference (gate (coded code (map move (take (cond (eqb code 1) 1 2) (v ∷ w ∷ [])))))
  one_operand one ea = rw (same, ea, eq-eqb code 1 one) (gate_absent file.Reference code (move v ∷ []) 1)

  pub two_operands : {b : ℕ} → (code ≡ 1 → ⊥) → a ≡ move v → b ≡ move w → write_item file.Reference (gate (coded operation (a ∷ b ∷ [])))
      ≡ write_item file.Reference (gate (coded code (map move (take (cond (eqb code 1) 1 2) (v ∷ w ∷ [])))))
  two_operands other ea eb = rw (same, ea, eb, ne_eqb code 1 other)
