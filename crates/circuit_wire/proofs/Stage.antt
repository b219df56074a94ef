-- The wired numbers are the flat form of the wired stage; with all nets after the gates at the ground, the gates' loops and orders are the same.
-- Assumes nothing.
use Prim.Native.Nat.{ℕ, zero, suc, ◌+◌, ◌*◌, ◌-◌, ◌/◌, ◌≤◌, ◌<◌}
use native.Mathlib.Omega.{arith}
use native.Mathlib.Decide.{dec_lt}
use mathlib.Core.Path.{◌≡◌, refl, sym, ap, ap₂, ◌∙◌, subst}
use mathlib.Core.Bool.{Bool, true, false}
use mathlib.Core.Logic.{inl, inr}
use mathlib.Core.List.{List, [], ◌∷◌, map}
use lib.ListN.{length, get_or, take, length-map}
use lib.Dec.{eqb}
use Rattle.gates.specs.Cell.{pin_count}
use Rattle.netlist.specs.declared.Counts.{Counts}
use Rattle.netlist.specs.Bytes.{absent}
use Rattle.netlist.specs.Content.{Gate, Stage}
use Rattle.verdict.specs.Paths.{In, Leads, here, onward}
use Rattle.verdict.specs.Loops as loops
use Rattle.verdict.specs.Loops.{pins_at, reaches_itself}
use Rattle.verdict.proofs.Reaching.{steps_gate, step_gate, reaches_sound, reaches_complete}
use Rattle.circuit.specs.Stage.{net_count, cell_in, slot, pin_in, gate_in, stage_gates, output_in, stage_outputs, stage_care, stage_in, GateLoaded, StageLoaded}
use Rattle.circuit.specs.Order.{TopologicalOrder, order_in, InOrder}
use Rattle.circuit.proofs.Tabulate.{all_same, map_tabulate, get_d_tabulate, length_tabulate}
use Rattle.wiring_spec.specs.Parts.{Pipeline, register_count}
use Rattle.wiring_spec.specs.Wiring.{gate_steps}
use Rattle.wiring_spec.specs.Passing.{ReachesOn}
use Rattle.wiring_spec.specs.Wires.{resolve, times}
use Rattle.wiring_spec.specs.Named.{IsData}
use Rattle.wiring_spec.specs.Tables.{PartsLoaded}
use Rattle.wiring_spec.proofs.Nets.{steps_are, data_net}
use Rattle.wiring_spec.proofs.Wires.{resolve_inside}
use Rattle.circuit_wire.specs.Wire.{RawLoaded, wire_in, ResolvedTo, wired_net, wired_number, WiredTo, CopiedTo, bare, gate_by, pair_by, stage_by}
use Rattle.circuit_wire.proofs.Wiring.{wire_before, times_fixed, resolve_is}
use Rattle.circuit_wire.proofs.Numbers.{net_before, net_past, net_row, pin_wired, cell_kept, hold_kept, rail_wired}

-- ---- lists

take-map : (f : ℕ → ℕ) (m : ℕ) (l : List ℕ) → take m (map f l) ≡ map f (take m l)
take-map f zero l = refl
take-map f (suc m) [] = refl
take-map f (suc m) (x ∷ l) = ap (λ (t : List ℕ). f x ∷ t) (take-map f m l)

map-same_in : (f g : ℕ → ℕ) (l : List ℕ) → ((v : ℕ) → In v l → f v ≡ g v) → map f l ≡ map g l
map-same_in f g [] h = refl
map-same_in f g (x ∷ l) h = ap₂ ◌∷◌ (h x (inl refl)) (map-same_in f g l (λ v i. h v (inr i)))

in_take : (m : ℕ) (l : List ℕ) (i : ℕ) → i < m → i < length l → In (get_or l i 0) (take m l)
in_take zero l i a b = absurd (omega arith)
in_take (suc m) [] i a b = absurd (omega arith)
in_take (suc m) (x ∷ l) zero a b = inl refl
in_take (suc m) (x ∷ l) (suc i) a b = inr (in_take m l i (omega arith) (omega arith))

map-in : (f : ℕ → ℕ) (xs : List ℕ) (v : ℕ) → In v xs → In (f v) (map f xs)
map-in f [] v x' = elim x' [ ]
map-in f (x ∷ xs) v (inl e) = inl (ap f e)
map-in f (x ∷ xs) v (inr i) = inr (map-in f xs v i)

in_map : (f : ℕ → ℕ) (xs : List ℕ) (y : ℕ) → In y (map f xs) → (u : ℕ) × In u xs × (y ≡ f u)
in_map f [] y i = absurd i
in_map f (x ∷ xs) y (inl e) = (x, inl refl, e)
in_map f (x ∷ xs) y (inr i) = let r = in_map f xs y i in (r.0, inr r.1, r.2)

abbrev four : List ℕ → ℕ → List ℕ
four code k = pin_in code k 0 ∷ pin_in code k 1 ∷ pin_in code k 2 ∷ pin_in code k 3 ∷ []

pick : (code : List ℕ) (k i : ℕ) → i < 4 → get_or (four code k) i 0 ≡ pin_in code k i
pick code k zero l = refl
pick code k (suc zero) l = refl
pick code k (suc (suc zero)) l = refl
pick code k (suc (suc (suc zero))) l = refl
pick code k (suc (suc (suc (suc i)))) l = absurd (omega arith)

-- ---- the stage of the file

module _ (p : Pipeline) (c : Counts) (raw : List ℕ) (r : RawLoaded p c raw) where
  abbrev first : ℕ
  first = net_count c

  pub gate_count : length p.gates ≡ c.gates
  unfolding stage_gates
  gate_count = ap length r.pins_are ∙ length-map (stage_gates c raw) (λ (g : Gate). g.pins) ∙ length_tabulate (gate_in raw) c.gates

  pub first-is : first ≡ 2 * p.inputs + length p.gates
  first-is = omega (arith, r.inputs_are, gate_count)

  -- the steps through gates are those of 12
  pub steps_same : (x : ℕ) → gate_steps p x ≡ loops.gate_steps c.inputs (stage_gates c raw) x
  unfolding loops.gate_steps
  steps_same x = steps_are p x ∙ rw (r.inputs_are, r.pins_are)

  pub gate_pins_holds : (k : ℕ) → k < c.gates → gate_steps p (2 * c.inputs + k) ≡ (gate_in raw k).pins
  unfolding stage_gates
  gate_pins_holds k h =
      steps_same (2 * c.inputs + k) ∙ steps_gate c.inputs (stage_gates c raw) k
      ∙ ap (λ (l : List (List ℕ)). get_or l k []) (map_tabulate (λ (g : Gate). g.pins) (gate_in raw) c.gates) ∙ get_d_tabulate (λ k. (gate_in raw k).pins) c.gates k [] h

  pin_data : (k : ℕ) → k < c.gates → (v : ℕ) → In v (gate_in raw k).pins → IsData p v
  pin_data k h v i = r.named.gate_pin (2 * c.inputs + k) v (subst (In v) (sym (gate_pins_holds k h)) i)

  -- ---- other nets in their places

  module _ (nets before code : List ℕ) (small : first + length nets / 8 ≤ absent) (w : WiredTo nets c raw before code (8 * c.gates + 2 * c.outputs)) where
    abbrev net : ℕ → ℕ
    net v = wired_net nets first v

    absent_ground : net absent ≡ first
    absent_ground = sym (net_past nets first absent (omega arith) (omega arith))

    module _ (k : ℕ) (h : k < c.gates) where
      at_pin : (i : ℕ) → i < 4 → pin_in code k i ≡ net (pin_in raw k i)
      at_pin i l = w.done (8 * k + (1 + i)) (omega arith) ∙ pin_wired nets c k i (pin_in raw k i) h l

      at_cell : cell_in code k ≡ cell_in raw k
      at_cell = w.done (8 * k) (omega arith) ∙ cell_kept nets c k (cell_in raw k) h

      at_hold : slot code k 7 ≡ slot raw k 7
      at_hold = w.done (8 * k + 7) (omega arith) ∙ hold_kept nets c k (slot raw k 7) h

      gate-by : gate_in code k ≡ gate_by net (gate_in raw k)
      gate-by =
          rw (at_cell, at_hold, at_pin 0 (omega arith), at_pin 1 (omega arith), at_pin 2 (omega arith), at_pin 3 (omega arith))
          (ap (λ (l : List ℕ). record { cell = cell_in raw k; hold = eqb (slot raw k 7) 1; pins = l }) (take-map net (pin_count (cell_in raw k)) (four raw k)))

      -- it is of a known cell, and at its pins stand nets, where those of the file become nets or the ground
      gate-loaded : ((v : ℕ) → In v (gate_in raw k).pins → net v ≤ first) → GateLoaded c code k
      gate-loaded low = record {
        low = omega (arith, at_cell, r.low k h);
        high = omega (arith, at_cell, r.high k h);
        pin = λ i l. go i l (dec_lt i (pin_count (cell_in raw k)));
        absent = λ i l b. at_pin i b ∙ ap net (r.lacks k i h (omega (arith, ap pin_count at_cell)) b) ∙ absent_ground;
      }
        where
          go : (i : ℕ) → i < 4 → Dec (i < pin_count (cell_in raw k)) → pin_in code k i ≤ first
          go i l (yes d) = omega (arith, at_pin i l, low (pin_in raw k i) (subst (λ (v : ℕ). In v (gate_in raw k).pins) (pick raw k i l) (in_take (pin_count (cell_in raw k)) (four raw k) i d l)))
          go i l (no d) = omega (arith, at_pin i l, ap net (r.lacks k i h (omega arith) l), absent_ground)

    module _ (j : ℕ) (h : j < c.outputs) where
      at_rail0 : (output_in c code j).rail0 ≡ net (output_in c raw j).rail0
      at_rail0 = w.done (8 * c.gates + 2 * j) (omega arith) ∙ rail_wired nets c (8 * c.gates + 2 * j) (output_in c raw j).rail0 (omega arith)

      at_rail1 : (output_in c code j).rail1 ≡ net (output_in c raw j).rail1
      at_rail1 = w.done (8 * c.gates + 2 * j + 1) (omega arith) ∙ rail_wired nets c (8 * c.gates + 2 * j + 1) (output_in c raw j).rail1 (omega arith)

    gates-by : stage_gates c code ≡ map (gate_by net) (stage_gates c raw)
    unfolding stage_gates
    gates-by = all_same (gate_in code) (λ k. gate_by net (gate_in raw k)) c.gates gate-by ∙ sym (map_tabulate (gate_by net) (gate_in raw) c.gates)

-- ---- the wired stage

module _ (p : Pipeline) (c : Counts) (raw : List ℕ) (r : RawLoaded p c raw) (count : ℕ) (rows regs nets code : List ℕ)
    (parts : PartsLoaded p (net_count c) count rows regs) (long : length rows ≡ 8 * count) (resolved : ResolvedTo rows nets (net_count c) (register_count p) (length rows / 8))
    (forward : (k : ℕ) → ¬ (ReachesOn p k k)) (w : WiredTo nets c raw raw code (8 * c.gates + 2 * c.outputs)) where
  abbrev begin : ℕ
  begin = net_count c

  small : begin + length nets / 8 ≤ absent
  small = omega (arith, resolved.long, parts.all_nets_holds, r.named.few)

  -- a data net becomes the net that it comes from
  data_net_is : (v : ℕ) → IsData p v → (wired_net nets begin v ≡ resolve p v) × (wired_net nets begin v < begin)
  data_net_is v d = let e = go (dec_lt v begin) in (e, omega (arith, resolve_inside p r.named forward v d, first-is p c raw r))
    where
      go : Dec (v < begin) → wired_net nets begin v ≡ resolve p v
      go (yes l) =
          sym (net_before nets begin v l) ∙ sym (times_fixed (wire_in rows begin) (register_count p) v (sym (wire_before rows begin v l)))
          ∙ resolve_is p begin count rows regs parts long v
      go (no l) =
          let z : begin + (v - begin) ≡ v = omega arith in
          let top : v - begin < count = omega (arith, data_net p v d, parts.all_nets_holds) in
          sym (net_row nets begin v (omega arith) (omega (arith, resolved.long)))
          ∙ resolved.done (v - begin) (omega arith)
          ∙ ap (times (register_count p) (wire_in rows begin)) z ∙ resolve_is p begin count rows regs parts long v

  pub wired_stage : stage_in c code ≡ stage_by (resolve p) (stage_in c raw)
  unfolding stage_gates stage_outputs stage_care
  wired_stage = λ i. record {
    inputs = c.inputs;
    gates = gates i;
    outputs = outputs i;
    care = all_same (λ i. get_or code (8 * c.gates + 2 * c.outputs + i) 0) (λ i. get_or raw (8 * c.gates + 2 * c.outputs + i) 0) c.care (λ i l. w.rest (8 * c.gates + 2 * c.outputs + i) (omega arith)) i;
  }
    where
      gate_at_holds : (k : ℕ) → k < c.gates → gate_in code k ≡ gate_by (resolve p) (gate_in raw k)
      gate_at_holds k h =
          gate-by p c raw r nets raw code small w k h
          ∙ ap (λ (l : List ℕ). record { cell = cell_in raw k; hold = eqb (slot raw k 7) 1; pins = l })
          (map-same_in (wired_net nets begin) (resolve p) (gate_in raw k).pins (λ v i. (data_net_is v (pin_data p c raw r k h v i)).0))

      gates : stage_gates c code ≡ map (gate_by (resolve p)) (stage_gates c raw)
      gates = all_same (gate_in code) (λ k. gate_by (resolve p) (gate_in raw k)) c.gates gate_at_holds ∙ sym (map_tabulate (gate_by (resolve p)) (gate_in raw) c.gates)

      output_at : (j : ℕ) → j < c.outputs → output_in c code j ≡ pair_by (resolve p) (output_in c raw j)
      output_at j h =
          ap₂ (λ (x y : ℕ). record { rail0 = x; rail1 = y })
          (at_rail0 p c raw r nets raw code small w j h ∙ (data_net_is (output_in c raw j).rail0 (r.rail0 j h)).0)
          (at_rail1 p c raw r nets raw code small w j h ∙ (data_net_is (output_in c raw j).rail1 (r.rail1 j h)).0)

      outputs : stage_outputs c code ≡ map (pair_by (resolve p)) (stage_outputs c raw)
      outputs = all_same (output_in c code) (λ j. pair_by (resolve p) (output_in c raw j)) c.outputs output_at ∙ sym (map_tabulate (pair_by (resolve p)) (output_in c raw) c.outputs)

  pub wired_loaded : StageLoaded c code
  wired_loaded = record {
    within = r.within;
    room = omega (arith, r.room, w.long);
    gate = λ k h. gate-loaded p c raw r nets raw code small w k h (λ v i. omega (arith, (data_net_is v (pin_data p c raw r k h v i)).1));
    rail0_net = λ j h. omega (arith, at_rail0 p c raw r nets raw code small w j h, (data_net_is (output_in c raw j).rail0 (r.rail0 j h)).1);
    rail1_net = λ j h. omega (arith, at_rail1 p c raw r nets raw code small w j h, (data_net_is (output_in c raw j).rail1 (r.rail1 j h)).1);
  }

-- what was copied before it was wired
pub wired_copy : (nets : List ℕ) (c : Counts) (raw spare copy code : List ℕ) (end : ℕ) → CopiedTo raw spare copy end → WiredTo nets c copy raw code end → WiredTo nets c raw raw code end
wired_copy nets c raw spare copy code end d w =
    record { long = w.long; done = λ j h. w.done j h ∙ ap (wired_number nets c j) (d.done j h); rest = w.rest }

-- ---- the gates by themselves

-- a path to a net below a bound is one along other steps, where only nets below the bound have steps and those to such nets are the same
leads-below : (next next' : ℕ → List ℕ) (bound : ℕ) → ((u v : ℕ) → In v (next u) → u < bound) → ((u v : ℕ) → In v (next u) → v < bound → In v (next' u))
    → (y : ℕ) → y < bound → {x : ℕ} → Leads next y x → Leads next' y x
leads-below next next' bound inside same y h here = here
leads-below next next' bound inside same y h (onward {x = x} {z = z} i l) = onward (same x z i (low l)) (leads-below next next' bound inside same y h l)
  where
    low : {z : ℕ} → Leads next y z → z < bound
    low here = h
    low (onward {x = u} {z = v} j q) = inside u v j

module _ (p : Pipeline) (c : Counts) (raw : List ℕ) (r : RawLoaded p c raw) (before cut : List ℕ) (w : WiredTo [] (bare c) raw before cut (8 * c.gates)) where
  abbrev n : ℕ
  n = c.inputs

  abbrev end : ℕ
  end = net_count c

  abbrev cut_net : ℕ → ℕ
  cut_net v = wired_net [] end v

  bare-raw : RawLoaded p (bare c) raw
  unfolding stage_gates
  bare-raw = record {
    within = record { inputs_in = r.within.inputs_in; gates_in_holds = r.within.gates_in_holds; outputs_in_holds = omega arith };
    room = omega (arith, r.room);
    low = r.low;
    high = r.high;
    inputs_are = r.inputs_are;
    pins_are = r.pins_are;
    lacks = r.lacks;
    rail0 = λ j h. absurd (omega arith);
    rail1 = λ j h. absurd (omega arith);
    named = r.named;
  }

  bare-wired : WiredTo [] (bare c) raw before cut (8 * c.gates + 2 * 0)
  bare-wired = let z : 8 * c.gates ≡ 8 * c.gates + 2 * 0 = omega arith in subst (WiredTo [] (bare c) raw before cut) z w

  tiny : end + length {A = ℕ} [] / 8 ≤ absent
  tiny = omega (arith, r.within.inputs_in, r.within.gates_in_holds)

  net-low : (v : ℕ) → v < end → cut_net v ≡ v
  net-low v h = sym (net_before [] end v h)

  net-high : (v : ℕ) → end ≤ v → cut_net v ≡ end
  net-high v h = sym (net_past [] end v h (omega arith))

  net-below : (v : ℕ) → cut_net v < end → cut_net v ≡ v
  net-below v h = go (dec_lt v end)
    where
      go : Dec (v < end) → cut_net v ≡ v
      go (yes l) = net-low v l
      go (no l) = absurd (omega (arith, net-high v (omega arith)))

  pub cut_loaded : 8 * c.gates ≤ length before → StageLoaded (bare c) cut
  cut_loaded room = record {
    within = bare-raw.within;
    room = omega (arith, w.long);
    gate = λ k h. gate-loaded p (bare c) raw bare-raw [] before cut tiny bare-wired k h (λ v i. go v (dec_lt v end));
    rail0_net = λ j h. absurd (omega arith);
    rail1_net = λ j h. absurd (omega arith);
  }
    where
      go : (v : ℕ) → Dec (v < end) → cut_net v ≤ end
      go v (yes l) = omega (arith, net-low v l)
      go v (no l) = omega (arith, net-high v (omega arith))

  pins-cut : (k : ℕ) → pins_at (stage_gates c cut) k ≡ map cut_net (pins_at (stage_gates c raw) k)
  unfolding stage_gates
  pins-cut k =
      ap (λ (gs : List Gate). pins_at gs k) (gates-by p (bare c) raw bare-raw [] before cut tiny bare-wired) ∙ at (stage_gates c raw) k
    where
      at : (gs : List Gate) (k : ℕ) → pins_at (map (gate_by cut_net) gs) k ≡ map cut_net (pins_at gs k)
      at [] k = refl
      at (g ∷ gs) zero = refl
      at (g ∷ gs) (suc k) = at gs k

  to_cut : (k v : ℕ) → v < end → In v (pins_at (stage_gates c raw) k) → In v (pins_at (stage_gates c cut) k)
  to_cut k v h i = subst (In v) (sym (pins-cut k)) (subst (λ (u : ℕ). In u (map cut_net (pins_at (stage_gates c raw) k))) (net-low v h) (map-in cut_net (pins_at (stage_gates c raw) k) v i))

  from_cut : (k v : ℕ) → v < end → In v (pins_at (stage_gates c cut) k) → In v (pins_at (stage_gates c raw) k)
  from_cut k v h i =
      let m = in_map cut_net (pins_at (stage_gates c raw) k) v (subst (In v) (pins-cut k) i) in
      subst (λ (u : ℕ). In u (pins_at (stage_gates c raw) k)) (sym (m.2 ∙ net-below m.0 (omega (arith, m.2)))) m.1

  gates_long : (code : List ℕ) → length (stage_gates c code) ≡ c.gates
  unfolding stage_gates
  gates_long code = length_tabulate (gate_in code) c.gates

  -- one stage's loops are another's, where the pins that are nets of inputs and gates are
  loop_as : (a b : List ℕ) → ((k v : ℕ) → v < end → In v (pins_at (stage_gates c a) k) → In v (pins_at (stage_gates c b) k)) → (g : ℕ) → g < c.gates
      → reaches_itself n (stage_gates c a) g ≡ true → reaches_itself n (stage_gates c b) g ≡ true
  loop_as a b same g h e =
      let l = reaches_sound n (stage_gates c a) g e in
      reaches_complete n (stage_gates c b) g (omega (arith, gates_long b)) (l.0, step (2 * n + g) l.0 l.1 (low l.2), leads-below steps (loops.gate_steps n (stage_gates c b)) end inside step (2 * n + g) (omega arith) l.2)
    where
      steps : ℕ → List ℕ
      steps = loops.gate_steps n (stage_gates c a)

      inside : (u v : ℕ) → In v (loops.gate_steps n (stage_gates c a) u) → u < end
      inside u v i = let s = step_gate n (stage_gates c a) u v i in omega (arith, s.1, s.2, gates_long a)

      step : (u v : ℕ) → In v (loops.gate_steps n (stage_gates c a) u) → v < end → In v (loops.gate_steps n (stage_gates c b) u)
      step u v i l =
          let s = step_gate n (stage_gates c a) u v i in
          subst (λ (x : ℕ). In v (loops.gate_steps n (stage_gates c b) x)) (sym s.2) (subst (In v) (sym (steps_gate n (stage_gates c b) s.0)) (same s.0 v l s.3))

      low : {z : ℕ} → Leads (loops.gate_steps n (stage_gates c a)) (2 * n + g) z → z < end
      low here = omega arith
      low (onward {x = u} {z = v} j q) = inside u v j

  pub cut_loops : (g : ℕ) → g < c.gates → reaches_itself n (stage_gates c cut) g ≡ reaches_itself n (stage_gates c raw) g
  cut_loops g h = either _ _ (loop_as cut raw from_cut g h) (loop_as raw cut to_cut g h)
    where
      either : (a b : Bool) → (a ≡ true → b ≡ true) → (b ≡ true → a ≡ true) → a ≡ b
      either true b f g = sym (f refl)
      either false true f g = g refl
      either false false f g = refl

  -- an order of the gates by themselves is one of the file's
  pub cut_order : (order : List ℕ) → InOrder (bare c) order → stage_in (bare c) order ≡ stage_in (bare c) cut → TopologicalOrder n (stage_gates c raw) (order_in c order)
  unfolding order_in stage_gates
  cut_order order o same =
      let gates : stage_gates c order ≡ stage_gates c cut = ap (λ (s : Stage). s.gates) same in
      let t = o.ordered in
      let size : length (stage_gates c raw) ≡ length (stage_gates c order) = gates_long raw ∙ sym (gates_long order) in
      record {
        long = omega (arith, t.long);
        gate = λ i h. omega (arith, t.gate i (omega arith));
        stands = λ k h. let s = t.stands k (omega arith) in (s.0, omega (arith, s.1), s.2);
        once = λ i j h l e. t.once i j (omega arith) (omega arith) e;
        earlier = λ i j h l f. t.earlier i j (omega arith) (omega arith)
            (subst (λ (gs : List Gate). In (2 * n + j) (pins_at gs (get_or (order_in c order) i 0))) (sym gates) (to_cut (get_or (order_in c order) i 0) (2 * n + j) (omega (arith, gates_long raw)) f));
      }
