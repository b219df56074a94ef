-- How long the text of a loaded stage is at most.
-- Assumes nothing.
use Prim.Native.Nat.{ℕ, zero, suc, ◌+◌, ◌*◌, ◌-◌, ◌/◌, ◌%◌, ◌≤◌, ◌<◌}
use native.Mathlib.Omega.{arith}
use mathlib.Core.Path.{◌≡◌, refl, ap}
use mathlib.Core.Bool.{Bool, true, false, cond}
use mathlib.Core.List.{List, [], ◌∷◌, ◌++◌, map}
use lib.ListN.{length, length-append, length-map, length-take}
use lib.Dec.{eqb, leb, ltb}
use borrow.Author.Tests.{le-leb, lt-leb, leb-true}
use Rattle.gates.specs.Cell as cell
use Rattle.gates.specs.Cell.{pin_count, kind_byte}
use Rattle.netlist.specs.declared.Counts.{Counts}
use Rattle.netlist.specs.Content.{Coded, Pair}
use Rattle.netlist.specs.Writing.{All, coded_gate}
use Rattle.circuit.specs.Stage.{tabulate, cell_in, slot, pin_in, gate_in, stage_gates, output_in, stage_outputs, stage_in, StageLoaded}
use Rattle.circuit.proofs.Tabulate.{length_tabulate, map_tabulate}
use Rattle.text_spec.specs.Characters.{newline, space, comma, rail, range, cell_name, kind_name}
use Rattle.text_spec.specs.ToText.{x, y, gate_name, net_name, straight, output_name, join, ended, output_names, gate_text, gate_texts, text_for}
use Rattle.text_spec.proofs.Spelling.{length-numbered, length_rail}
use Rattle.text_spec.proofs.KindNames.{every_range}
use Rattle.text_spec.proofs.Lookup.{length_map_range}
use Rattle.text_write.specs.Parts.{input_names, output_names_in, gate_lines}
use Rattle.text_write.proofs.Names.{text_parts}

-- ---- names

rail_short : (s : List ℕ) (b : ℕ) → length s ≤ 4 → length (rail s b) ≤ 6
rail_short s b l = omega (arith, length_rail s b)

x-short : (i : ℕ) → length (x i) ≤ 4
x-short i = (length-numbered 120 i refl).1

y-short : (i : ℕ) → length (y i) ≤ 4
y-short i = (length-numbered 121 i refl).1

gate-short : (k v j : ℕ) (ps : List Pair) → length (gate_name k v j ps) ≤ 6
unfolding gate_name
gate-short k v j [] = omega (arith, (length-numbered 103 k refl).1)
gate-short k v j (p ∷ ps) = go (eqb p.rail0 v) (eqb p.rail1 v) (gate-short k v (suc j) ps)
  where
    go : (s t : Bool) → length (gate_name k v (suc j) ps) ≤ 6 → length (cond s (rail (y j) 0) (cond t (rail (y j) 1) (gate_name k v (suc j) ps))) ≤ 6
    go true t h = rail_short (y j) 0 (y-short j)
    go false true h = rail_short (y j) 1 (y-short j)
    go false false h = h

net-short : (n : ℕ) (ps : List Pair) (v : ℕ) → length (net_name n ps v) ≤ 6
unfolding net_name
net-short n ps v = go (ltb v (2 * n))
  where
    go : (t : Bool) → length (cond t (rail (x (v / 2)) (v % 2)) (gate_name (v - 2 * n) v 0 ps)) ≤ 6
    go true = rail_short (x (v / 2)) (v % 2) (x-short (v / 2))
    go false = gate-short (v - 2 * n) v 0 ps

output_short : (n j : ℕ) (p : Pair) → length (output_name n j p) ≤ 4
unfolding output_name
output_short n j p = go (straight n p)
  where
    go : (t : Bool) → length (cond t (x (p.rail0 / 2)) (y j)) ≤ 4
    go true = x-short (p.rail0 / 2)
    go false = y-short j

abbrev fits : ℕ → Bool
fits k = leb (length (cell_name k)) 8

cells_fit : (k : ℕ) → 1 ≤ k → k ≤ 27 → length (cell_name k) ≤ 8
unfolding cell_name cell.cell_at cell.cells
cells_fit k low high = leb-true (length (cell_name k)) 8 (every_range fits 1 27 refl k low (omega arith))

kind_short : (hold : Bool) (k : ℕ) → 1 ≤ k → k ≤ 27 → length (kind_name (kind_byte k hold)) ≤ 9
unfolding kind_name
kind_short true k low high = rw (le-leb k 27 high) (omega (arith, cells_fit k low high))
kind_short false k low high =
    let e : k + 128 - 128 ≡ k = omega arith in
    rw (lt-leb (k + 128) 27 (omega arith), e) (omega (arith, cells_fit k low high))

-- ---- lists of names

abbrev Short : ℕ → List (List ℕ) → Type 0
Short w = All (λ p. length p ≤ w)

join-short : (w : ℕ) (ps : List (List ℕ)) → Short w ps → length (join comma ps) ≤ (w + 1) * length ps
join-short w [] h = omega arith
join-short w (p ∷ []) h = omega (arith, h.0)
join-short w (p ∷ q ∷ ps) h = omega (arith, h.0, join-short w (q ∷ ps) h.1, length-append p (comma ∷ join comma (q ∷ ps)))

map-short : {X : Type 0} (w : ℕ) (f : X → List ℕ) → ((a : X) → length (f a) ≤ w) → (as' : List X) → Short w (map f as')
map-short w f h [] = tt
map-short w f h (a ∷ as') = (h a, map-short w f h as')

outputs-short : (n j : ℕ) (ps : List Pair) → Short 4 (output_names n j ps)
outputs-short n j [] = tt
outputs-short n j (p ∷ ps) = (output_short n j p, outputs-short n (suc j) ps)

length_outputs : (n j : ℕ) (ps : List Pair) → length (output_names n j ps) ≡ length ps
length_outputs n j [] = refl
length_outputs n j (p ∷ ps) = ap suc (length_outputs n (suc j) ps)

-- ---- gate lines

pub record Fine (c : Coded) : Type 0 where
  pub name : length (kind_name c.code) ≤ 9
  pub pins : length c.operands ≤ 4

module _ (n : ℕ) (ps : List Pair) where
  line_short : (v : ℕ) (c : Coded) → Fine c → length (gate_text n ps v c) ≤ 45
  line_short v c h =
      let pins = map (net_name n ps) c.operands in
      omega (
        arith,
        h.name,
        h.pins,
        length-append (kind_name c.code) (space ∷ (join comma pins ++ (space ∷ net_name n ps v))),
        length-append (join comma pins) (space ∷ net_name n ps v),
        join-short 6 pins (map-short 6 (net_name n ps) (net-short n ps) c.operands),
        length-map c.operands (net_name n ps),
        net-short n ps v,
      )

  lines-short : (v : ℕ) (cs : List Coded) → All Fine cs → length (ended (gate_texts n ps v cs)) ≤ 46 * length cs
  lines-short v [] h = omega arith
  lines-short v (c ∷ cs) h =
      omega (arith, line_short v c h.0, lines-short (suc v) cs h.1, length-append (gate_text n ps v c) (newline ∷ ended (gate_texts n ps (suc v) cs)))

all_tabulate : {X : Type 0} (P : X → Type 0) (f : ℕ → X) (m : ℕ) → ((i : ℕ) → i < m → P (f i)) → All P (tabulate f m)
unfolding tabulate
all_tabulate P f zero h = tt
all_tabulate P f (suc m) h = (h 0 (omega arith), all_tabulate P (λ i. f (suc i)) m (λ i l. h (suc i) (omega arith)))

-- ---- the text

module _ (c : Counts) (code : List ℕ) (h : StageLoaded c code) where
  gate-fine : (k : ℕ) → k < c.gates → Fine (coded_gate (gate_in code k))
  gate-fine k l =
      let d = h.gate k l in
      record {
        name = kind_short (eqb (slot code k 7) 1) (cell_in code k) d.low d.high;
        pins = omega (arith, length-take (pin_count (cell_in code k)) (pin_in code k 0 ∷ pin_in code k 1 ∷ pin_in code k 2 ∷ pin_in code k 3 ∷ []));
      }

  gates-short : length (gate_lines c code) ≤ 46 * c.gates
  unfolding stage_gates
  gates-short =
      let cs = tabulate (λ k. coded_gate (gate_in code k)) c.gates in
      let n = length_tabulate (λ k. coded_gate (gate_in code k)) c.gates in
      let s = lines-short c.inputs (stage_outputs c code) (2 * c.inputs) cs (all_tabulate Fine (λ k. coded_gate (gate_in code k)) c.gates gate-fine) in
      let e = ap (λ (l : List Coded). length (ended (gate_texts c.inputs (stage_outputs c code) (2 * c.inputs) l)))
      (map_tabulate coded_gate (gate_in code) c.gates) in
      omega (arith, s, e, n)

  inputs_short : length (input_names c.inputs) ≤ 5 * c.inputs
  inputs_short = omega (arith, join-short 4 (map x (range 0 c.inputs)) (map-short 4 x x-short (range 0 c.inputs)), length_map_range x 0 c.inputs)

  names-short : length (output_names_in c code) ≤ 5 * c.outputs
  unfolding stage_outputs
  names-short =
      let ps = tabulate (output_in c code) c.outputs in
      omega (
        arith,
        join-short 4 (output_names c.inputs 0 ps) (outputs-short c.inputs 0 ps),
        length_outputs c.inputs 0 ps,
        length_tabulate (output_in c code) c.outputs,
      )

  pub text_short : length (text_for (stage_in c code)) ≤ 5 * 10 + 5 * 16 + 46 * 256 + 2
  text_short =
      omega (
        arith,
        ap length (text_parts c code).is,
        length-append (input_names c.inputs) (newline ∷ (output_names_in c code ++ (newline ∷ gate_lines c code))),
        length-append (output_names_in c code) (newline ∷ gate_lines c code),
        inputs_short,
        names-short,
        gates-short,
        h.within.inputs_in,
        h.within.outputs_in_holds,
        h.within.gates_in_holds,
      )
