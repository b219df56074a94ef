-- The rows of a pipeline's nets are seeds for its registers, and for its inputs; so what is gathered is what reaches each register.
-- Assumes nothing.
use Prim.Native.Nat.{ℕ, ◌+◌, ◌*◌, ◌-◌, ◌≤◌, ◌<◌}
use native.Mathlib.Omega.{arith}
use native.Mathlib.Decide.{dec_lt}
use mathlib.Core.Path.{◌≡◌, refl, sym, ap, ◌∙◌}
use mathlib.Core.Bool.{Bool, true, false}
use mathlib.Core.List.{List, []}
use lib.ListN.{length, get_or, get_or-eq_default}
use Rattle.netlist.specs.declared.Counts.{Counts}
use Rattle.netlist.specs.Bytes.{absent}
use Rattle.circuit.specs.Stage.{net_count}
use Rattle.lane_cells.specs.Lane.{level_in, lane}
use Rattle.lane_cells.proofs.Lane.{lane_zero}
use Rattle.wiring_spec.specs.Parts.{Pipeline, Driver, input, gate, rail, acknowledge, completion, nothing, driver_of, register_count, data_of, all_nets}
use Rattle.wiring_spec.specs.Wiring.{gate_steps, is_input, is_rail_of, data_from, reaches, from_input}
use Rattle.wiring_spec.specs.Named.{carries_data}
use Rattle.wiring_spec.specs.Tables.{slot, RowOf, PartsLoaded}
use Rattle.wiring_spec.specs.Gathering.{Gathers}
use Rattle.wiring_spec.proofs.Nets.{never, eqb_sym, past_nothing, net_where, Stands, stands, early_data, gate_inside}
use Rattle.wiring_spec.proofs.Rows.{by_row}
use Rattle.wiring_spec.proofs.Gathering.{gathers_lead}
use Rattle.circuit_wire.specs.Wire.{RawLoaded}
use Rattle.check_levels.specs.Sources.{is_rail, RailsIn, Seeds}
use Rattle.check_levels.specs.Graph.{source_in, SourcesOf}

module _ (p : Pipeline) (c : Counts) (raw : List ℕ) (r : RawLoaded p c raw) (count : ℕ) (nets regs : List ℕ) (parts : PartsLoaded p (net_count c) count nets regs) (long : length nets ≡ 8 * count) where
  abbrev first : ℕ
  first = net_count c

  zero_slot : (i : ℕ) → slot nets i 0 ≡ get_or nets (8 * i) 0
  zero_slot i = let z : 8 * i + 0 ≡ 8 * i = omega arith in ap (λ (k : ℕ). get_or nets k 0) z

  -- ---- the rails of registers

  pub rails_in_holds : RailsIn nets
  rails_in_holds = record { rows = omega arith; registers = λ i e. go i e (dec_lt i count) }
    where
      at : (i : ℕ) (d : Driver) (x : ℕ) → slot nets i 0 ≡ 1 → RowOf p nets i d → Stands p d x → slot nets i 6 < 64
      at i input x e w s = absurd w
      at i (gate pins) x e w s = absurd w
      at i (rail k b) x e w s = omega (arith, w.2, s.0, parts.few)
      at i (acknowledge k) x e w s = absurd (omega (arith, w.0))
      at i (completion pins) x e w s = absurd (omega (arith, w.0))
      at i nothing x e w s = absurd w

      go : (i : ℕ) → get_or nets (8 * i) 0 ≡ 1 → Dec (i < count) → get_or nets (8 * i + 6) 0 < 64
      go i e (yes l) = at i (driver_of p (first + i)) (first + i) (zero_slot i ∙ e) (parts.row i l) (stands p (first + i))
      go i e (no l) = let z : get_or nets (8 * i) 0 ≡ 0 = get_or-eq_default nets 0 (omega arith) in absurd (omega arith)

  rail-is : (t x : ℕ) → first ≤ x → is_rail nets t (x - first) ≡ is_rail_of t (driver_of p x)
  unfolding is_rail is_rail_of
  rail-is t =
      by_row p first count nets regs parts long (λ x d. first ≤ x → is_rail nets t (x - first) ≡ is_rail_of t d) (λ x d h s e l. absurd (omega arith)) row
      (λ x l h e k. rw (sym (zero_slot (x - first)) ∙ e))
    where
      row : (x : ℕ) (d : Driver) → first ≤ x → x - first < count → Stands p d x → RowOf p nets (x - first) d → first ≤ x → is_rail nets t (x - first) ≡ is_rail_of t d
      row x input l h s w k = absurd w
      row x (gate pins) l h s w k = absurd w
      row x (rail j b) l h s w k = rw (sym (zero_slot (x - first)) ∙ w.0, w.2) (eqb_sym t j)
      row x (acknowledge j) l h s w k = rw (sym (zero_slot (x - first)) ∙ w.0)
      row x (completion pins) l h s w k = rw (sym (zero_slot (x - first)) ∙ w.0)
      row x nothing l h s w k = absurd w

  early_rail : (t x : ℕ) → x < first → is_rail_of t (driver_of p x) ≡ false
  unfolding is_rail_of
  early_rail t x h = go (driver_of p x) (stands p x)
    where
      go : (d : Driver) → Stands p d x → is_rail_of t d ≡ false
      go input s = refl
      go (gate pins) s = refl
      go (rail k b) s = absurd (omega (arith, s.1, parts.first-is))
      go (acknowledge k) s = refl
      go (completion pins) s = refl
      go nothing s = refl

  far : all_nets p ≤ absent
  far = omega (arith, r.named.few)

  pub rail_seeds : (t : ℕ) (sets : List ℕ) → ((x : ℕ) → get_or sets x 0 ≡ 0) → Seeds p (λ x. is_rail_of t (driver_of p x)) t nets c sets
  unfolding is_rail_of
  rail_seeds t sets none = record {
    inputs = λ x h. ap (lane t) (none x) ∙ lane_zero t ∙ sym (early_rail t x (omega arith));
    gates = λ k h. early_rail t (2 * c.inputs + k) (omega arith);
    none = ap (is_rail_of t) (past_nothing p absent far);
    late = λ x h. rail-is t x h;
  }

  -- ---- the inputs

  input_is : (x : ℕ) → x < first → (x < 2 * c.inputs → is_input (driver_of p x) ≡ true) × (2 * c.inputs ≤ x → is_input (driver_of p x) ≡ false)
  unfolding is_input carries_data
  input_is x h = go (driver_of p x) (stands p x) (early_data p x (omega (arith, parts.first-is)))
    where
      go : (d : Driver) → Stands p d x → carries_data d ≡ true → (x < 2 * c.inputs → is_input d ≡ true) × (2 * c.inputs ≤ x → is_input d ≡ false)
      go input s e = ((λ l. refl), (λ l. absurd (omega (arith, r.inputs_are))))
      go (gate pins) s e = ((λ l. absurd (omega (arith, s.2, r.inputs_are))), (λ l. refl))
      go (rail k b) s e = absurd (omega (arith, s.1, parts.first-is))
      go (acknowledge k) s e = absurd (never e)
      go (completion pins) s e = absurd (never e)
      go nothing s e = absurd (never e)

  late_input : (x : ℕ) → first ≤ x → is_input (driver_of p x) ≡ false
  unfolding is_input
  late_input x h = go (driver_of p x) (stands p x)
    where
      go : (d : Driver) → Stands p d x → is_input d ≡ false
      go input s = absurd (omega (arith, r.inputs_are))
      go (gate pins) s = refl
      go (rail k b) s = refl
      go (acknowledge k) s = refl
      go (completion pins) s = refl
      go nothing s = refl

  pub input_seeds : (sets : List ℕ) → ((x : ℕ) → x < 2 * c.inputs → get_or sets x 0 ≡ 1) → Seeds p (λ x. is_input (driver_of p x)) 0 [] c sets
  unfolding is_input is_rail level_in
  input_seeds sets ones = record {
    inputs = λ x h. rw (ones x h) (sym ((input_is x (omega arith)).0 h));
    gates = λ k h. (input_is (2 * c.inputs + k) (omega arith)).1 (omega arith);
    none = ap is_input (past_nothing p absent far);
    late = λ x h. sym (late_input x h);
  }

  -- ---- what reaches each register

  net : (goal : Driver → Bool) → ¬ (goal nothing ≡ true) → (y : ℕ) → goal (driver_of p y) ≡ true → y < all_nets p
  net goal none y e = net_where p y (λ d. goal d ≡ true) none e

  pub sources_of : (sources : List ℕ) → length sources ≡ register_count p
      → ((t : ℕ) → t < 64 → (u : ℕ) → u < register_count p → Gathers (gate_steps p) (λ x. is_rail_of t (driver_of p x)) (data_of p u) (source_in sources t u)) → SourcesOf p sources
  unfolding reaches data_from is_rail_of
  sources_of sources size g = record {
    long = size;
    each = λ k t hk ht.
        gathers_lead (gate_steps p) (λ x. is_rail_of k (driver_of p x)) (all_nets p) (gate_inside p) (net (is_rail_of k) never) (data_of p t) (source_in sources k t) (g k hk t ht);
  }

  pub inputs_of : (sources : List ℕ) (u : ℕ) → Gathers (gate_steps p) (λ x. is_input (driver_of p x)) (data_of p u) (source_in sources 0 u) → source_in sources 0 u ≡ from_input p u
  unfolding from_input data_from is_input
  inputs_of sources u g = gathers_lead (gate_steps p) (λ x. is_input (driver_of p x)) (all_nets p) (gate_inside p) (net is_input never) (data_of p u) (source_in sources 0 u) g
