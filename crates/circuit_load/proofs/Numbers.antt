-- One number of a flat form, by the cases of the code; and numbers that are written one after the other.
-- Assumes nothing.
use Prim.Native.Nat.{ℕ, suc, ◌+◌, ◌-◌, ◌*◌, ◌/◌, ◌%◌, ◌≤◌, ◌<◌}
use native.Mathlib.Omega.{arith}
use native.Mathlib.Decide.{ℕ_discrete}
use mathlib.Core.Path.{◌≡◌, refl, sym, ap, subst, ◌∙◌}
use mathlib.Core.List.{List, [], ◌∷◌}
use lib.ListN.{length, get_or, set, replicate, length-set}
use lib.Seq.{sets, get_or-set_same, get_or-set_other}
use borrow.Author.Tests.{eq-eqb, ne_eqb, lt-ltb, le-ltb}
use Rattle.gates.specs.Cell.{kind_of}
use Rattle.gates.specs.declared.Kind.{Kind}
use Rattle.gates.specs.declared.Kind.TheVariants.{Hold, Relaxed, Unknown}
use Rattle.netlist.specs.declared.Counts.{Counts}
use Rattle.netlist.specs.Bytes.{byte, operand}
use Rattle.netlist.specs.declared.Limits.{Limits}
use Rattle.read_file.specs.Files.{first_care}
use Rattle.write_command.specs.Put.{Put}
use Rattle.circuit_load.specs.Load.{pin_number, cell_row, kind_row, gate_row, gates_number, output_number, stage_number, WrittenTo, operator_number, reference_number}

module _ (s : List ℕ) (at ground : ℕ) where
  pub pin_there : (pins i : ℕ) → i < pins → operand s (at + 2 + 2 * i) ≡ pin_number s at pins ground i
  unfolding pin_number
  pin_there pins i h = rw (lt-ltb i pins h)

  pub pin_absent : (pins i : ℕ) → pins ≤ i → ground ≡ pin_number s at pins ground i
  unfolding pin_number
  pin_absent pins i h = rw (le-ltb i pins h)

  pub gate_held : (cell pins : ℕ) → Hold cell pins ≡ kind_of (byte s (at + 1)) → cell_row s at cell pins 1 ground ≡ gate_row s at ground
  unfolding gate_row
  gate_held cell pins k = rw (← k)

  pub gate_relaxed : (cell pins : ℕ) → Relaxed cell pins ≡ kind_of (byte s (at + 1)) → cell_row s at cell pins 0 ground ≡ gate_row s at ground
  unfolding gate_row
  gate_relaxed cell pins k = rw (← k)

  pub gate_unknown : Unknown ≡ kind_of (byte s (at + 1)) → replicate 8 0 ≡ gate_row s at ground
  unfolding gate_row
  gate_unknown k = rw (← k)

  -- a gate has eight numbers
  pub gate_long : length (gate_row s at ground) ≡ 8
  unfolding gate_row
  gate_long = go (kind_of (byte s (at + 1)))
    where
      go : (kind : Kind) → length (kind_row kind s at ground) ≡ 8
      go (Hold cell pins) = refl
      go (Relaxed cell pins) = refl
      go Unknown = refl

-- ---- a gate of a reference

module _ (s : List ℕ) (at j : ℕ) where
  pub number_operation : j ≡ 0 → byte s (at + 1) ≡ operator_number s at j
  unfolding operator_number
  number_operation e = rw e

  pub number_first : j ≡ 1 → operand s (at + 2) ≡ operator_number s at j
  unfolding operator_number
  number_first e = rw e

  module _ (l : (j ≡ 0 → ⊥)) (h : (j ≡ 1 → ⊥)) where
    pub number_again : byte s (at + 1) ≡ 1 → operand s (at + 2) ≡ operator_number s at j
    unfolding operator_number
    number_again e = rw (ne_eqb j 0 l, ne_eqb j 1 h, eq-eqb (byte s (at + 1)) 1 e)

    pub number_second : (byte s (at + 1) ≡ 1 → ⊥) → operand s (at + 4) ≡ operator_number s at j
    unfolding operator_number
    number_second d = rw (ne_eqb j 0 l, ne_eqb j 1 h, ne_eqb (byte s (at + 1)) 1 d)

-- ---- gates, then outputs

module _ (most : Limits) (s places : List ℕ) (c : Counts) where
  pub output_rail_holds : (j : ℕ) → j < 2 * c.outputs → operand s (get_or places (most.gates + j / 2) 0 + 1 + 2 * (j % 2)) ≡ output_number most s places c j
  unfolding output_number
  output_rail_holds j l = rw (lt-ltb j (2 * c.outputs) l)

  pub output_care : (j : ℕ) → 2 * c.outputs ≤ j → get_or places (first_care most + (j - 2 * c.outputs)) 0 ≡ output_number most s places c j
  unfolding output_number
  output_care j l = rw (le-ltb j (2 * c.outputs) l)

  module _ (ground : ℕ) where
    pub stage_gate_holds : (i : ℕ) → i < 8 * c.gates → gates_number s places ground i ≡ stage_number most s places c ground i
    unfolding stage_number
    stage_gate_holds i h = rw (lt-ltb i (8 * c.gates) h)

    -- number j of those that follow the gates
    pub stage_later : (j : ℕ) → output_number most s places c j ≡ stage_number most s places c ground (8 * c.gates + j)
    unfolding stage_number
    stage_later j = let e : 8 * c.gates + j - 8 * c.gates ≡ j = omega arith in rw (le-ltb (8 * c.gates + j) (8 * c.gates) (omega arith), e)

module _ (most : Limits) (s places : List ℕ) (c : Counts) (i : ℕ) where
  pub reference_gate : i < 3 * c.gates → operator_number s (get_or places (i / 3) 0) (i % 3) ≡ reference_number most s places c i
  unfolding reference_number
  reference_gate h = rw (lt-ltb i (3 * c.gates) h)

  pub reference_output : 3 * c.gates ≤ i → operand s (get_or places (most.gates + (i - 3 * c.gates)) 0 + 1) ≡ reference_number most s places c i
  unfolding reference_number
  reference_output h = rw (le-ltb i (3 * c.gates) h)

-- ---- one after the other

pub write_more : (number : ℕ → ℕ) (code : List ℕ) (i x : ℕ) → i < length code → WrittenTo number code i → x ≡ number i →
    WrittenTo number (set code i x) (i + 1)
write_more number code i x h before e q l = go (ℕ_discrete q i)
  where
    go : Dec (q ≡ i) → get_or (set code i x) q 0 ≡ number q
    go (yes y) = rw y (get_or-set_same code i x 0 h ∙ e)
    go (no d) = get_or-set_other code i q x 0 d ∙ before q (omega arith)

-- number i of those that follow some
pub write_next : (number : ℕ → ℕ) (code : List ℕ) (from i x : ℕ) → from + i < length code → WrittenTo number code (from + i) → x ≡ number (from + i) →
    WrittenTo number (set code (from + i) x) (from + (i + 1))
write_next number code from i x h before e q l = write_more number code (from + i) x h before e q (omega arith)

-- some at once
pub write_all : (number : ℕ → ℕ) (code : List ℕ) (at : ℕ) (xs : List ℕ) → at + length xs ≤ length code → WrittenTo number code at →
    ((j : ℕ) → j < length xs → get_or xs j 0 ≡ number (at + j)) → WrittenTo number (sets code at xs) (at + length xs)
write_all number code at [] room before each q h = before q (omega arith)
write_all number code at (x ∷ xs) room before each q h =
    let here : at + 0 ≡ at = omega arith in
    let start : suc at ≡ at + 1 = omega arith in
    write_all number (set code at x) (suc at) xs (simp length-set (omega arith))
    (subst (WrittenTo number (set code at x)) (sym start) (write_more number code at x (omega arith) before (each 0 (omega arith) ∙ ap number here)))
    (λ j l. let e : at + suc j ≡ suc at + j = omega arith in each (suc j) (omega arith) ∙ ap number e) q (omega arith)

-- ---- gate by gate

module _ (s places : List ℕ) (ground : ℕ) where
  -- number j of gate k
  pub gate_number : (k j : ℕ) → j < 8 → get_or (gate_row s (get_or places k 0) ground) j 0 ≡ gates_number s places ground (8 * k + j)
  unfolding gates_number
  gate_number k j l =
      let a : (8 * k + j) / 8 ≡ k = omega arith in
      let b : (8 * k + j) % 8 ≡ j = omega arith in
      rw (a, b)

  -- gate k, where those before it are written
  pub write_gate : (k : ℕ) {code after : List ℕ} → 8 * k + 8 ≤ length code → WrittenTo (gates_number s places ground) code (8 * k) →
      Put code (8 * k) (gate_row s (get_or places k 0) ground) after → WrittenTo (gates_number s places ground) after (8 * (k + 1))
  write_gate k {code} {after} room before p q l =
      let long = gate_long s (get_or places k 0) ground in
      ap (λ (x : List ℕ). get_or x q 0) p.stored
      ∙ write_all (gates_number s places ground) code (8 * k) (gate_row s (get_or places k 0) ground) (omega arith) before (λ j b. gate_number k j (omega arith)) q (omega arith)
