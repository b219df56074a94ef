-- The name of a net by the first rail of an output on it, and the lines of a loaded stage as lists of names.
-- Assumes nothing.
use Prim.Native.Nat.{ℕ, suc, ◌+◌, ◌*◌, ◌-◌, ◌/◌, ◌%◌, ◌≤◌, ◌<◌}
use native.Mathlib.Omega.{arith}
use native.Mathlib.Numerals.{add-one}
use mathlib.Core.Path.{◌≡◌, refl, sym, ap, ◌∙◌}
use mathlib.Core.Bool.{Bool, true, false, cond}
use mathlib.Core.List.{List, [], ◌∷◌, ◌++◌, map}
use lib.ListN.{length, get_or, take, drop, length-drop}
use lib.Seq.{length-take-le}
use lib.Dec.{eqb}
use borrow.Author.Tests.{lt-ltb, le-ltb, eq-eqb, ne_eqb, le-leb, lt-leb}
use Rattle.gates.specs.Cell.{kind_byte}
use Rattle.netlist.specs.declared.Counts.{Counts}
use Rattle.netlist.specs.Content.{Pair}
use Rattle.netlist.specs.Writing.{coded_gate}
use Rattle.circuit.specs.Stage.{tabulate, pin_in, gate_in, stage_gates, output_in, stage_outputs, stage_in}
use Rattle.circuit.specs.Form.{PinCountAt}
use Rattle.circuit.proofs.Tabulate.{from_at, none_from, map_tabulate}
use Rattle.text_spec.specs.Characters.{newline, space, comma, rail, cell_name, kind_name}
use Rattle.text_spec.specs.ToText.{numbered, x, y, g, gate_name, net_name, straight, output_name, join, ended, gate_texts, lines_of, text_for}
use Rattle.text_lines.specs.Names.{NameTable}
use Rattle.print_spec.specs.Decimal.{decimal}
use Rattle.write_decimal.proofs.Decimal.{decimal_small}
use Rattle.text_write.specs.Parts.{kind_in, input_names, output_names_in, pin_names, gate_line, gate_lines}
use Rattle.text_write.proofs.Loops.{FiveParts, parts_from}
use Rattle.text_write.proofs.Lists.{range_are, outputs_are, gates_are, pins_are, join-parts, ended_parts}

-- ---- the name of a net

module _ (c : Counts) (code : List ℕ) (v : ℕ) where
  abbrev named : List ℕ
  named = net_name c.inputs (stage_outputs c code) v

  pub input_name : v < 2 * c.inputs → rail (x (v / 2)) (v % 2) ≡ named
  unfolding net_name
  input_name l = rw (lt-ltb v (2 * c.inputs) l)

  abbrev p : ℕ → Pair
  p = output_in c code

  -- no output before output j is on the net
  abbrev pub NotBefore : ℕ → Type 0
  NotBefore j = named ≡ gate_name (v - 2 * c.inputs) v j (drop j (tabulate p c.outputs))

  pub not-before : 2 * c.inputs ≤ v → NotBefore 0
  unfolding net_name stage_outputs
  not-before l = rw (le-ltb v (2 * c.inputs) l)

  module _ {j : ℕ} (h : NotBefore j) where
    here : j < c.outputs → named ≡ cond (eqb (p j).rail0 v) (rail (y j) 0)
        (cond (eqb (p j).rail1 v) (rail (y j) 1) (gate_name (v - 2 * c.inputs) v (suc j) (drop (suc j) (tabulate p c.outputs))))
    unfolding gate_name
    here l = h ∙ ap (gate_name (v - 2 * c.inputs) v j) (from_at p c.outputs j l)

    pub on_rail_0 : j < c.outputs → (p j).rail0 ≡ v → rail (y j) 0 ≡ named
    on_rail_0 l e = sym (here l ∙ rw (eq-eqb (p j).rail0 v e))

    pub on_rail_1 : j < c.outputs → ((p j).rail0 ≡ v → ⊥) → (p j).rail1 ≡ v → rail (y j) 1 ≡ named
    on_rail_1 l d e = sym (here l ∙ rw (ne_eqb (p j).rail0 v d, eq-eqb (p j).rail1 v e))

    pub not_on : j < c.outputs → ((p j).rail0 ≡ v → ⊥) → ((p j).rail1 ≡ v → ⊥) → NotBefore (j + 1)
    not_on l d e = here l ∙ rw (ne_eqb (p j).rail0 v d, ne_eqb (p j).rail1 v e, add-one j)

    pub gate_name_holds : c.outputs ≤ j → g (v - 2 * c.inputs) ≡ named
    unfolding gate_name
    gate_name_holds l = sym (h ∙ ap (gate_name (v - 2 * c.inputs) v j) (none_from p c.outputs j l))

-- ---- the name of an output

module _ (n j : ℕ) (p : Pair) where
  pub straight_name : straight n p ≡ true → x (p.rail0 / 2) ≡ output_name n j p
  unfolding output_name
  straight_name e = rw e

  pub own_name : straight n p ≡ false → y j ≡ output_name n j p
  unfolding output_name
  own_name e = rw e

-- ---- the lines of names

pub input_parts : (n : ℕ) → 1 ≤ n → input_names n ≡ x 0 ++ parts_from (λ i. comma ∷ x i) n 1
input_parts n l = ap (join comma) (range_are x n) ∙ join-parts x n l

module _ (c : Counts) (code : List ℕ) where
  abbrev pub name_at : ℕ → List ℕ
  name_at j = output_name c.inputs j (output_in c code j)

  pub output_parts : 1 ≤ c.outputs → output_names_in c code ≡ name_at 0 ++ parts_from (λ j. comma ∷ name_at j) c.outputs 1
  unfolding stage_outputs
  output_parts l = ap (join comma) (outputs_are c.inputs (output_in c code) c.outputs) ∙ join-parts name_at c.outputs l

  -- ---- gate lines

  abbrev pub pin_name : ℕ → ℕ → List ℕ
  pin_name k i = net_name c.inputs (stage_outputs c code) (pin_in code k i)

  pub pin_parts : (k m : ℕ) → PinCountAt code k m → pin_names c code k ≡ pin_name k 0 ++ parts_from (λ i. comma ∷ pin_name k i) m 1
  pin_parts k m h =
      let name = net_name c.inputs (stage_outputs c code) in
      rw (sym h.is)
      (ap (λ (l : List ℕ). join comma (map name l)) (pins_are (pin_in code k) m h.most)
      ∙ ap (join comma) (map_tabulate name (pin_in code k) m)
      ∙ join-parts (pin_name k) m h.some)

  -- the lines from gate k on
  abbrev pub lines_from : ℕ → List ℕ
  lines_from = parts_from (λ k. gate_line c code k ++ (newline ∷ [])) c.gates

  pub gate_parts : gate_lines c code ≡ lines_from 0
  unfolding stage_gates
  gate_parts =
      ap ended
      (ap (gate_texts c.inputs (stage_outputs c code) (2 * c.inputs)) (map_tabulate coded_gate (gate_in code) c.gates)
      ∙ gates_are c.inputs (stage_outputs c code) (2 * c.inputs) (λ k. coded_gate (gate_in code k)) c.gates)
      ∙ ended_parts (gate_line c code) c.gates

  -- ---- the whole text

  pub text_parts : FiveParts (text_for (stage_in c code)) (input_names c.inputs) (newline ∷ []) (output_names_in c code) (newline ∷ []) (gate_lines c code)
  unfolding text_for lines_of
  text_parts = record { is = refl }

  -- ---- the line of a gate

  pub line_parts : (k : ℕ) → FiveParts (gate_line c code k) (kind_name (kind_in code k)) (space ∷ []) (pin_names c code k) (space ∷ [])
      (net_name c.inputs (stage_outputs c code) (2 * c.inputs + k))
  line_parts k = record { is = refl }

-- ---- kinds

pub hold_name : (cell : ℕ) → cell ≤ 27 → {b : Bool} → b ≡ true → cell_name cell ≡ kind_name (kind_byte cell b)
unfolding kind_name
hold_name cell l e = rw (e, le-leb cell 27 l)

pub relaxed_name : (cell : ℕ) {b : Bool} → b ≡ false → 114 ∷ cell_name cell ≡ kind_name (kind_byte cell b)
unfolding kind_name
relaxed_name cell e =
    let back : cell + 128 - 128 ≡ cell = omega arith in
    rw (e, lt-leb (cell + 128) 27 (omega arith), back)

-- ---- numbered names

pub numbered_parts : (letter i : ℕ) → i < 1000 → numbered letter i ≡ (letter ∷ []) ++ decimal i
unfolding numbered
numbered_parts letter i l = ap (λ (d : List ℕ). letter ∷ d) (sym (decimal_small 2 i l (omega arith)))

-- ---- the table of names

module _ (t : List ℕ) (h : NameTable t) (cell : ℕ) (low : 1 ≤ cell) (high : cell ≤ 27) where
  abbrev row : ℕ
  row = 9 * (cell - 1)

  pub name_few : get_or t row 0 ≤ 8
  name_few = (h.row (cell - 1) (omega arith)).short

  pub name_part : take (row + 1 + get_or t row 0 - (row + 1)) (drop (row + 1) t) ≡ cell_name cell
  name_part =
      let e : row + 1 + get_or t row 0 - (row + 1) ≡ get_or t row 0 = omega arith in
      let s : suc (cell - 1) ≡ cell = omega arith in
      rw e ((h.row (cell - 1) (omega arith)).name ∙ ap cell_name s)

  pub name_long : get_or t row 0 ≡ length (cell_name cell)
  name_long =
      let few = name_few in
      let l : length (drop (row + 1) t) ≡ length t - (row + 1) = length-drop (row + 1) t in
      let e : row + 1 + get_or t row 0 - (row + 1) ≡ get_or t row 0 = omega arith in
      sym (length-take-le (get_or t row 0) (drop (row + 1) t) (omega (arith, h.long))) ∙ ap length (rw e at name_part)
