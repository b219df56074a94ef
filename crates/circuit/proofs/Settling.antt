-- Settling in a topological order: a gate that is evaluated keeps its level, and in the end every gate has the settled one.
-- Assumes nothing.
use Prim.Native.Nat.{ℕ, ◌+◌, ◌-◌, ◌*◌, ◌≤◌, ◌<◌}
use native.Mathlib.Omega.{arith}
use native.Mathlib.Decide.{ℕ_discrete, dec_lt}
use mathlib.Core.Path.{◌≡◌, sym, ap, ap₂, ◌∙◌, subst, fun_ext}
use mathlib.Core.List.{List, ◌++◌, map}
use lib.ListN.{length, get_or, set, take, drop, length-map, length-set, length-drop, replicate, length-replicate, get_or-replicate, get_or-append}
use lib.Seq.{get_or-append-add, get_or-set_same, get_or-set_other, set_out, take-set-le, take-set-lt}
use lib.Seq.{drop-set-add, length-take-le, take-add, take-take, take-length, take-append_seam, drop-append_seam, get_or-take}
use lib.Dec.{ltb}
use Rattle.netlist.specs.declared.Counts.{Counts}
use Rattle.netlist.specs.Reading.{stage_limits, Within}
use Rattle.netlist.specs.Content.{Gate}
use Rattle.verdict.specs.Rows.{high, is_set, rounds, settled_levels, levels_holding}
use Rattle.runs.specs.Row.{only}
use Rattle.verdict.specs.Levels.{level_holding}
use Rattle.verdict.specs.Falls.{level_falling, fallen_levels}
use Rattle.verdict.specs.Loops.{In, pins_at, LoopFree}
use Rattle.verdict.proofs.Fixed.{Local, Fixed}
use Rattle.verdict.proofs.Settling.{level_held, level_free, holding_settled, holding_local, holding_one}
use Rattle.verdict.proofs.Falls.{falling_local, falling_one}
use Rattle.circuit.specs.Stage.{net_count, gate_in, gate_at_place, stage_gates}
use Rattle.circuit.specs.Order.{TopologicalOrder, order_in, InOrder}
use Rattle.circuit.specs.Rows.{row_size, RowFor, nets_in, rail_part, level_part, SettledBefore, settled_holding_in, fallen_in}
use Rattle.circuit.specs.Form.{GateAt}
use Rattle.circuit.proofs.Tabulate.{length_tabulate, get_d_tabulate, map_tabulate}
use Rattle.circuit.proofs.Order.{order_no_loop}

-- where no gate is held, the levels are the settled ones
pub holding_none : (gates : List Gate) (rails : List ℕ) → levels_holding (length gates) gates rails ≡ settled_levels gates rails
unfolding levels_holding settled_levels
holding_none gates rails =
    ap (λ (step : List ℕ → List ℕ). rounds step (length gates) (length gates))
    (fun_ext (λ v. set_out (map (is_set (rails ++ v)) gates) (length gates) 0 (omega (arith, length-map gates (is_set (rails ++ v))))))

-- ---- one gate after the other, by a rule that looks at a gate's pins alone

module _ (n : ℕ) (gates : List Gate) (rule : List ℕ → ℕ → ℕ) (local : Local gates rule) (order rails : List ℕ) (t : TopologicalOrder n gates order) (both : length rails ≡ 2 * n) where
  module _ (levels : List ℕ) (long : length levels ≡ length gates) (i : ℕ) (hi : i < length gates) (x : ℕ) where
    abbrev o : ℕ
    o = get_or order i 0

    abbrev levels' : List ℕ
    levels' = set levels o x

    -- the gate at place i is at no pin of a gate before it, or of itself
    pin_kept : (j : ℕ) → j ≤ i → (p : ℕ) → In p (pins_at gates (get_or order j 0)) → high (rails ++ levels') p ≡ high (rails ++ levels) p
    pin_kept j hj p f = ap (λ (y : ℕ). ltb 0 y) (go (dec_lt p (length rails)) (ℕ_discrete (p - length rails) o))
      where
        gate_net : (v : List ℕ) → length rails ≤ p → get_or (rails ++ v) p 0 ≡ get_or v (p - length rails) 0
        gate_net v h =
            let e : p ≡ length rails + (p - length rails) = omega arith in
            ap (λ (y : ℕ). get_or (rails ++ v) y 0) e ∙ get_or-append-add rails v (p - length rails) 0

        go : Dec (p < length rails) → Dec (p - length rails ≡ o) → get_or (rails ++ levels') p 0 ≡ get_or (rails ++ levels) p 0
        go (yes a) b = get_or-append rails levels' 0 p a ∙ sym (get_or-append rails levels 0 p a)
        go (no a) (no b) = gate_net levels' (omega arith) ∙ get_or-set_other levels o (p - length rails) x 0 b ∙ sym (gate_net levels (omega arith))
        go (no a) (yes b) =
            let q : p ≡ 2 * n + o = omega arith in
            let s = t.earlier j o (omega arith) (t.gate i hi) (subst (λ (y : ℕ). In y (pins_at gates (get_or order j 0))) q f) in
            absurd (omega (arith, s.1, t.once s.0 i (omega (arith, s.1)) hi s.2))

    level-kept : (j : ℕ) → j ≤ i → rule (rails ++ levels') (get_or order j 0) ≡ rule (rails ++ levels) (get_or order j 0)
    level-kept j hj = local (rails ++ levels') (rails ++ levels) (get_or order j 0) (t.gate j (omega arith)) (pin_kept j hj)

    settle_more : SettledBefore i rule order rails levels → x ≡ rule (rails ++ levels) o → SettledBefore (i + 1) rule order rails levels'
    settle_more before e j hj = go (ℕ_discrete j i)
      where
        go : Dec (j ≡ i) → get_or levels' (get_or order j 0) 0 ≡ rule (rails ++ levels') (get_or order j 0)
        go (yes q) =
            rw q (get_or-set_same levels o x 0 (omega (arith, t.gate i hi)) ∙ e ∙ sym (level-kept i (omega arith)))
        go (no d) =
            get_or-set_other levels o (get_or order j 0) x 0 (λ q. d (t.once j i (omega arith) hi q))
            ∙ before j (omega arith)
            ∙ sym (level-kept j (omega arith))

  all_settled : (levels : List ℕ) → length levels ≡ length gates → (i : ℕ) → length gates ≤ i → SettledBefore i rule order rails levels → Fixed gates rule rails levels
  all_settled levels long i l before = record {
    long = long;
    at = λ k b.
        let s = t.stands k b in
        subst (λ (y : ℕ). get_or levels y 0 ≡ rule (rails ++ levels) y) s.2 (before s.0 (omega (arith, s.1)));
  }

-- settled levels, with a gate held or not, are right with another gate held at every place where neither gate stands
pub settled_before : (h : ℕ) (gates : List Gate) (order rails : List ℕ) (h' m : ℕ) → ((i : ℕ) → i < m → get_or order i 0 ≡ h → ⊥) →
    ((i : ℕ) → i < m → get_or order i 0 ≡ h' → ⊥) → SettledBefore m (level_holding h gates) order rails (levels_holding h' gates rails)
settled_before h gates order rails h' m not-h not-h' i hi =
    let levels = levels_holding h' gates rails in
    let k = get_or order i 0 in
    ap (λ (v : List ℕ). get_or v k 0) (sym (holding_settled h' gates rails))
    ∙ level_free h' gates (rails ++ levels) k (not-h' i hi)
    ∙ sym (level_free h gates (rails ++ levels) k (not-h i hi))

-- ---- rows of a flat form

-- all nets low
pub low_row : (c : Counts) → Within stage_limits c → RowFor c (replicate row_size 0)
low_row c w = record {
  long = omega (arith, length-replicate {A = ℕ} row_size 0, w.inputs_in, w.gates_in_holds);
  bit = λ p h. omega (arith, low p h);
  ground = low (net_count c) (omega arith);
}
  where
    low : (p : ℕ) → p ≤ net_count c → get_or {A = ℕ} (replicate row_size 0) p 0 ≡ 0
    low p h = get_or-replicate row_size p 0 0 (omega (arith, w.inputs_in, w.gates_in_holds))

-- what copying the first bytes of a list to the front of another leaves there
pub copied_first : (size : ℕ) (row rest held : List ℕ) → size ≤ length row → held ≡ take (length (take size row)) (take size row) ++ rest →
    take size held ≡ take size row
copied_first size row rest held h e =
    ap (take size) (e ∙ ap (λ (l : List ℕ). l ++ rest) (take-length (take size row)))
    ∙ ap (λ (n : ℕ). take n (take size row ++ rest)) (sym (length-take-le size row h))
    ∙ take-append_seam (take size row) rest

-- a row after the nets and the ground of another were copied to its front
module _ (c : Counts) (row rest held : List ℕ) (r : RowFor c row) (long : net_count c < length held)
    (is : held ≡ take (length (take (net_count c + 1) row)) (take (net_count c + 1) row) ++ rest) where
  same : take (net_count c + 1) held ≡ take (net_count c + 1) row
  same = copied_first (net_count c + 1) row rest held (omega (arith, r.long)) is

  pub copied_nets : nets_in c held ≡ nets_in c row
  copied_nets =
      sym (take-take (net_count c) (net_count c + 1) held (omega arith)) ∙ ap (take (net_count c)) same
      ∙ take-take (net_count c) (net_count c + 1) row (omega arith)

  copied_at : (p : ℕ) → p ≤ net_count c → get_or held p 0 ≡ get_or row p 0
  copied_at p h =
      sym (get_or-take (net_count c + 1) held p 0 (omega arith)) ∙ ap (λ (l : List ℕ). get_or l p 0) same
      ∙ get_or-take (net_count c + 1) row p 0 (omega arith)

  pub copied_row : RowFor c held
  copied_row =
      record { long = long; bit = λ p h. omega (arith, copied_at p h, r.bit p h); ground = copied_at (net_count c) (omega arith) ∙ r.ground }

module _ (c : Counts) (row : List ℕ) (r : RowFor c row) where
  pub length_rails : length (rail_part c row) ≡ 2 * c.inputs
  length_rails = length-take-le (2 * c.inputs) row (omega (arith, r.long))

  pub length_levels : length (level_part c row) ≡ c.gates
  length_levels = length-take-le c.gates (drop (2 * c.inputs) row) (omega (arith, length-drop (2 * c.inputs) row, r.long))

  -- the levels of a row by its nets
  pub levels_by_holds : (rails levels : List ℕ) → length rails ≡ 2 * c.inputs → nets_in c row ≡ rails ++ levels → level_part c row ≡ levels
  levels_by_holds rails levels e is =
      sym (drop-append_seam (rail_part c row) (level_part c row))
      ∙ ap₂ {C = List ℕ} (λ n l. drop n l) (length_rails ∙ sym e) (sym (take-add (2 * c.inputs) c.gates row) ∙ is)
      ∙ drop-append_seam rails levels

  -- after a store of 0 or 1 at a net
  pub row_set : (p x : ℕ) → p < net_count c → x ≤ 1 → RowFor c (set row p x)
  row_set p x h l = record {
    long = omega (arith, length-set row p x, r.long);
    bit = λ q b. go q b (ℕ_discrete q p);
    ground = get_or-set_other row p (net_count c) x 0 (λ e. omega arith) ∙ r.ground;
  }
    where
      go : (q : ℕ) → q ≤ net_count c → Dec (q ≡ p) → get_or (set row p x) q 0 ≤ 1
      go q b (yes e) = rw e (omega (arith, get_or-set_same row p x 0 (omega (arith, r.long))))
      go q b (no d) = omega (arith, get_or-set_other row p q x 0 d, r.bit q b)

-- ---- settling a row

pub length_stage_gates : (c : Counts) (code : List ℕ) → length (stage_gates c code) ≡ c.gates
unfolding stage_gates
length_stage_gates c code = length_tabulate (gate_in code) c.gates

pub order_at : (c : Counts) (code : List ℕ) (i : ℕ) → i < c.gates → get_or (order_in c code) i 0 ≡ gate_at_place code i
unfolding order_in
order_at c code i h = get_d_tabulate (gate_at_place code) c.gates i 0 h

module _ (c : Counts) (code row : List ℕ) (held k : ℕ) (h : k < c.gates) where
  pub held_at : k ≡ held → 0 ≡ level_holding held (stage_gates c code) row k
  held_at e = sym (level_held held (stage_gates c code) row k (omega (arith, length_stage_gates c code)) e)

  pub set_at : (k ≡ held → ⊥) → (x : ℕ) → x ≡ is_set row (gate_in code k) → x ≡ level_holding held (stage_gates c code) row k
  unfolding stage_gates
  set_at d x e =
      e
      ∙ sym (ap (λ (l : List ℕ). get_or l k 0) (map_tabulate (is_set row) (gate_in code) c.gates)
      ∙ get_d_tabulate (λ i. is_set row (gate_in code i)) c.gates k 0 h)
      ∙ sym (level_free held (stage_gates c code) row k d)

-- the rails are those at the start, and the gates at the first i places have their levels by a rule
pub record SettlingTo (c : Counts) (code : List ℕ) (rule : List ℕ → ℕ → ℕ) (start row : List ℕ) (i : ℕ) : Type 0 where
  pub row_for_holds : RowFor c row
  pub same_long : length row ≡ length start
  pub rails : rail_part c row ≡ rail_part c start
  pub before : SettledBefore i rule (order_in c code) (rail_part c row) (level_part c row)

module _ (c : Counts) (code : List ℕ) (ordered : InOrder c code) where
  pub order_gate : (i : ℕ) → i < c.gates → gate_at_place code i < c.gates
  order_gate i h = omega (arith, order_at c code i h, length_stage_gates c code, ordered.ordered.gate i (omega (arith, length_stage_gates c code)))

  module _ (rule : List ℕ → ℕ → ℕ) (local : Local (stage_gates c code) rule) (start row : List ℕ) (i : ℕ) (s : SettlingTo c code rule start row i) where
    pub settling_turn : i < c.gates → (k : ℕ) → GateAt c code i k → (x : ℕ) → x ≡ rule (nets_in c row) k → x ≤ 1 → SettlingTo c code rule start (set row (2 * c.inputs + k) x) (i + 1)
    settling_turn h k at x e l =
        let n = 2 * c.inputs in
        let r = s.row_for_holds in
        let g = order_at c code i h ∙ sym at.is in
        let rails = take-set-le n row (n + k) x (omega arith) in
        let y = e ∙ ap (λ (l : List ℕ). rule l k) (take-add n c.gates row) in
        record {
          row_for_holds = row_set c row r (n + k) x (omega (arith, at.there)) l;
          same_long = length-set row (n + k) x ∙ s.same_long;
          rails = rails ∙ s.rails;
          before =
              rw (rails, drop-set-add n row k x, take-set-lt c.gates (drop n row) k x at.there, ← g)
              (settle_more c.inputs (stage_gates c code) rule local (order_in c code) (rail_part c row) ordered.ordered (length_rails c row r) (level_part c row)
              (length_levels c row r ∙ sym (length_stage_gates c code)) i (omega (arith, length_stage_gates c code)) x s.before (rw g y));
        }

    -- in the end all gates have
    module _ (h : c.gates ≤ i) where
      settling_fixed : Fixed (stage_gates c code) rule (rail_part c row) (level_part c row)
      settling_fixed =
          let r = s.row_for_holds in
          all_settled c.inputs (stage_gates c code) rule local (order_in c code) (rail_part c row) ordered.ordered (length_rails c row r) (level_part c row)
          (length_levels c row r ∙ sym (length_stage_gates c code)) i (omega (arith, length_stage_gates c code)) s.before

      -- which are the only ones
      settling_done : (levels : List ℕ → List ℕ) →
          ((rails v : List ℕ) → length rails ≡ 2 * c.inputs → Fixed (stage_gates c code) rule rails v → v ≡ levels rails) → nets_in c row ≡ rail_part c start ++ levels (rail_part c start)
      settling_done levels one =
          take-add (2 * c.inputs) c.gates row
          ∙ ap (λ (l : List ℕ). rail_part c row ++ l) (one (rail_part c row) (level_part c row) (length_rails c row s.row_for_holds) settling_fixed)
          ∙ ap (λ (l : List ℕ). l ++ levels l) s.rails

  free : LoopFree c.inputs (stage_gates c code)
  free = order_no_loop c.inputs (stage_gates c code) (order_in c code) ordered.ordered

  pub holding_done : (h : ℕ) (start row : List ℕ) (i : ℕ) → SettlingTo c code (level_holding h (stage_gates c code)) start row i → c.gates ≤ i → nets_in c row ≡ settled_holding_in h c code start
  holding_done h start row i s l =
      settling_done (level_holding h (stage_gates c code)) (holding_local h (stage_gates c code)) start row i s l (levels_holding h (stage_gates c code))
      (λ rails v both f. holding_one h (stage_gates c code) c.inputs free rails both v f)

  pub falling_done : (h : ℕ) (start row : List ℕ) (i : ℕ) → SettlingTo c code (level_falling (only h) (stage_gates c code) (level_part c start)) start row i → c.gates ≤ i → nets_in c row ≡ fallen_in h c code start
  falling_done h start row i s l =
      settling_done (level_falling (only h) (stage_gates c code) (level_part c start)) (falling_local (only h) (stage_gates c code) (level_part c start)) start row i s l
      (fallen_levels (only h) (stage_gates c code) (level_part c start)) (λ rails v both f. falling_one (only h) (stage_gates c code) (level_part c start) c.inputs free rails both v f)

pub settle_none : (c : Counts) (code rails : List ℕ) → levels_holding c.gates (stage_gates c code) rails ≡ settled_levels (stage_gates c code) rails
settle_none c code rails =
    ap (λ (m : ℕ). levels_holding m (stage_gates c code) rails) (sym (length_stage_gates c code)) ∙ holding_none (stage_gates c code) rails
