-- The whole that the code writes is that of the parts' contents.
-- Assumes nothing.
use Prim.Native.Nat.{ℕ, zero, suc, ◌+◌, ◌-◌, ◌*◌, ◌/◌, ◌%◌}
use mathlib.Core.Path.{◌≡◌, refl, sym, ap, ap₂, ◌∙◌, fun_ext}
use mathlib.Core.Bool.{Bool, true, false, cond}
use mathlib.Core.List.{List, [], ◌∷◌, ◌++◌, map, map-map}
use lib.ListN.{length, get_or, length-map, get_or-map}
use lib.Dec.{eqb, ltb}
use Rattle.gates.specs.Cell.{bit}
use Rattle.netlist.specs.declared.File.TheVariants as file
use Rattle.netlist.specs.Content.{Coded, Gate, Pair, Stage, Reference}
use Rattle.netlist.specs.Writing.{coded_gate, pair_operands, write_stage, write_reference}
use Rattle.verdict.specs.Nets.{no_pair, rail_of}
use Rattle.check_spec.specs.Content.{Content}
use Rattle.check_spec.specs.Loaded.{from_stage, from_reference}
use Rattle.check_spec.specs.Writing.{write_file}
use Rattle.check_spec.proofs.Back.{stage_write, reference_write}
use Rattle.join_spec.specs.Joining.{joined_by, net_in_whole, signal_in_whole}
use Rattle.write_joined.specs.Whole as code

map-++ : {X Y : Type 0} (f : X → Y) (l m : List X) → map f (l ++ m) ≡ map f l ++ map f m
map-++ f [] m = refl
map-++ {Y = Y} f (x ∷ l) m = ap (λ (r : List Y). f x ∷ r) (map-++ f l m)

-- gates whose operands are moved
abbrev moved : (ℕ → ℕ) → Coded → Coded
moved move g = record { code = g.code; operands = map move g.operands }

module _ (s t : Stage) where
  rail_at : (outputs : List Pair) (j : ℕ) (b : Bool) → get_or (get_or (map pair_operands outputs) j []) (bit b) 0 ≡ rail_of (get_or outputs j no_pair) b
  rail_at [] j true = refl
  rail_at [] j false = refl
  rail_at (p ∷ outputs) zero true = refl
  rail_at (p ∷ outputs) zero false = refl
  rail_at (p ∷ outputs) (suc j) b = rail_at outputs j b

  net-alike : net_in_whole (from_stage s) (from_stage t) ≡ code.net_in_whole s t
  unfolding net_in_whole code.net_in_whole
  net-alike = fun_ext (λ net. ap₂ (λ (x y : ℕ). cond (ltb net (2 * t.inputs)) x (2 * s.inputs + y + (net - 2 * t.inputs)))
      (rail_at s.outputs (net / 2) (eqb (net % 2) 1)) (length-map s.gates coded_gate))

  pub stage_bytes : write_file file.Stage (joined_by (net_in_whole (from_stage s) (from_stage t)) (from_stage s) (from_stage t)) ≡ write_stage (code.joined_stage s t)
  unfolding joined_by code.joined_stage
  stage_bytes =
      let move = code.net_in_whole s t in
      ap (λ (m : ℕ → ℕ). write_file file.Stage (joined_by m (from_stage s) (from_stage t))) net-alike
      ∙ ap₂ (λ (gates : List Coded) (outputs : List (List ℕ)). write_file file.Stage (record { inputs = s.inputs; gates = gates; outputs = outputs; care = s.care; parts = [] }))
      (ap (λ (l : List Coded). map coded_gate s.gates ++ l) (map-map (moved move) coded_gate t.gates ∙ sym (map-map coded_gate (code.gate_in_whole s t) t.gates))
      ∙ sym (map-++ coded_gate s.gates (map (code.gate_in_whole s t) t.gates)))
      (map-map (map move) pair_operands t.outputs ∙ sym (map-map pair_operands (code.pair_in_whole s t) t.outputs))
      ∙ stage_write (code.joined_stage s t)

module _ (r q : Reference) where
  signal_alike : signal_in_whole (from_reference r) (from_reference q) ≡ code.signal_in_whole r q
  unfolding signal_in_whole code.signal_in_whole
  signal_alike = fun_ext (λ x. ap (λ (y : ℕ). cond (ltb x q.inputs) y (r.inputs + length r.gates + (x - q.inputs))) (at r.outputs x))
    where
      at : (outputs : List ℕ) (x : ℕ) → get_or (get_or (map (λ (v : ℕ). v ∷ []) outputs) x []) 0 0 ≡ get_or outputs x 0
      at [] x = refl
      at (v ∷ outputs) zero = refl
      at (v ∷ outputs) (suc x) = at outputs x

  pub reference_bytes : write_file file.Reference (joined_by (signal_in_whole (from_reference r) (from_reference q)) (from_reference r) (from_reference q)) ≡ write_reference (code.joined_reference r q)
  unfolding joined_by code.joined_reference
  reference_bytes =
      let move = code.signal_in_whole r q in
      ap (λ (m : ℕ → ℕ). write_file file.Reference (joined_by m (from_reference r) (from_reference q))) signal_alike
      ∙ ap (λ (outputs : List (List ℕ)). write_file file.Reference (record { inputs = r.inputs; gates = r.gates ++ map (moved move) q.gates; outputs = outputs; care = []; parts = [] }))
      (map-map (map move) (λ (v : ℕ). v ∷ []) q.outputs ∙ sym (map-map (λ (v : ℕ). v ∷ []) move q.outputs))
      ∙ reference_write (code.joined_reference r q)
