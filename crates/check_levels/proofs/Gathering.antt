-- Gathering what leads to each net, gate by gate in their order, and what leads to the data of a register.
-- Assumes nothing.
use Prim.Native.Nat.{ℕ, zero, suc, ◌+◌, ◌*◌, ◌-◌, ◌/◌, ◌%◌, ◌≤◌, ◌<◌}
use native.Mathlib.Omega.{arith}
use native.Mathlib.Decide.{ℕ_discrete, dec_lt}
use mathlib.Core.Path.{◌≡◌, refl, sym, ap, ◌∙◌, subst}
use mathlib.Core.Bool.{Bool, true, false, cond, ◌||◌}
use mathlib.Core.Logic.{inl, inr}
use mathlib.Core.List.{List, [], ◌∷◌}
use lib.ListN.{length, get_or, set, take, length-set, get_or-eq_default}
use lib.Seq.{get_or-set_same, get_or-set_other}
use lib.Bits.{bit_or}
use borrow.Author.Tests.{lt-ltb, le-ltb, ne_eqb}
use Rattle.gates.specs.Cell.{pin_count}
use Rattle.netlist.specs.declared.Counts.{Counts}
use Rattle.netlist.specs.Bytes.{absent}
use Rattle.verdict.specs.Lists.{some}
use Rattle.verdict.specs.Paths.{In}
use Rattle.verdict.specs.Loops as loops
use Rattle.verdict.proofs.Reaching.{steps_gate, step_gate}
use Rattle.circuit.specs.Stage.{net_count, cell_in, gate_in, gate_at_place, stage_gates}
use Rattle.circuit.specs.Order.{order_in}
use Rattle.circuit.proofs.Tabulate.{get_d_tabulate, length_tabulate}
use Rattle.lane_cells.specs.Lane.{lane}
use Rattle.lane_cells.proofs.Lane.{lane_zero, lane_or}
use Rattle.lane_rise.proofs.Lanes.{one_at, one_lane}
use Rattle.wiring_spec.specs.Parts.{Pipeline, register_count, data_of}
use Rattle.wiring_spec.specs.Wiring.{gate_steps}
use Rattle.wiring_spec.specs.Gathering.{Gathers}
use Rattle.wiring_spec.specs.Tables.{register_slot, RegisterRow}
use Rattle.wiring_spec.proofs.Nets.{data_two}
use Rattle.wiring_spec.proofs.Gathering.{gathers_none, gathers_more, gathers_step}
use Rattle.circuit_wire.specs.Wire.{RawLoaded}
use Rattle.circuit_wire.proofs.Stage.{steps_same, gate_pins_holds}
use Rattle.check_levels.specs.Sources.{is_rail, is_member, SetOf, pins_in, RailsIn, Gatherable, Seeds}

or-cond : (a b : Bool) → (a || b) ≡ cond a true b
or-cond true b = refl
or-cond false b = refl

or-false : (a : Bool) → (a || false) ≡ a
or-false true = refl
or-false false = refl

-- ---- a net by itself

module _ (rails : List ℕ) (first : ℕ) (sets : List ℕ) (x : ℕ) where
  member_before : (t : ℕ) → x < first → is_member rails first sets t x ≡ lane t (get_or sets x 0)
  unfolding is_member
  member_before t h = rw (lt-ltb x first h)

  member_late : (t : ℕ) → first ≤ x → is_member rails first sets t x ≡ is_rail rails t (x - first)
  unfolding is_member
  member_late t h = rw (le-ltb x first h)

  alone : (v : ℕ) → ((t : ℕ) → t < 64 → lane t v ≡ is_member rails first sets t x) → SetOf rails first sets (x ∷ []) v
  unfolding some
  alone v f t h = f t h ∙ single (is_member rails first sets t x)
    where
      single : (b : Bool) → b ≡ cond b true false
      single true = refl
      single false = refl

  pub set_before : x < first → SetOf rails first sets (x ∷ []) (get_or sets x 0)
  set_before h = alone (get_or sets x 0) (λ t l. sym (member_before t h))

  pub set_past : first ≤ x → length rails % 8 ≡ 0 → length rails / 8 ≤ x - first → SetOf rails first sets (x ∷ []) 0
  unfolding is_rail
  set_past h m l =
      let none : get_or rails (8 * (x - first)) 0 ≡ 0 = get_or-eq_default rails 0 (omega arith) in
      alone 0 (λ t k. lane_zero t ∙ sym (member_late t h ∙ rw none))

  pub set_rail : first ≤ x → RailsIn rails → get_or rails (8 * (x - first)) 0 ≡ 1 → SetOf rails first sets (x ∷ []) (one_at (get_or rails (8 * (x - first) + 6) 0))
  unfolding is_rail
  set_rail h r e = alone _ (λ t k. one_lane (get_or rails (8 * (x - first) + 6) 0) t (r.registers (x - first) e) k ∙ sym (member_late t h ∙ rw e))

  pub set_other : first ≤ x → ¬ (get_or rails (8 * (x - first)) 0 ≡ 1) → SetOf rails first sets (x ∷ []) 0
  unfolding is_rail
  set_other h d = alone 0 (λ t k. lane_zero t ∙ sym (member_late t h ∙ rw (ne_eqb (get_or rails (8 * (x - first)) 0) 1 d)))

  pub set_join : (xs : List ℕ) (a b : ℕ) → SetOf rails first sets (x ∷ []) a → SetOf rails first sets xs b → SetOf rails first sets (x ∷ xs) (bit_or a b)
  unfolding some
  set_join xs a b f g t h = lane_or t a b ∙ rw (f t h, g t h) (join (is_member rails first sets t x) (some (is_member rails first sets t) xs))
    where
      join : (b c : Bool) → (cond b true false || c) ≡ cond b true c
      join true c = refl
      join false c = refl

-- ---- the pins of a gate

-- of a few numbers, of which those from the n-th on are FFFF
gathers_take : (next : ℕ → List ℕ) (own f : ℕ → Bool) → f absent ≡ false → (n : ℕ) (xs : List ℕ) → ((i : ℕ) → n ≤ i → i < length xs → get_or xs i 0 ≡ absent)
    → ((x : ℕ) → In x (take n xs) → Gathers next own (x ∷ []) (f x)) → Gathers next own (take n xs) (some f xs)
unfolding some
gathers_take next own f none zero [] lack each = gathers_none next own
gathers_take next own f none zero (x ∷ xs) lack each =
    rw (lack 0 (omega arith) (omega arith), none) (gathers_take next own f none zero xs (λ i a b. lack (suc i) (omega arith) (omega arith)) (λ y i. absurd i))
gathers_take next own f none (suc n) [] lack each = gathers_none next own
gathers_take next own f none (suc n) (x ∷ xs) lack each =
    subst (Gathers next own (x ∷ take n xs)) (or-cond (f x) (some f xs))
    (gathers_more next own x (take n xs) (f x) (some f xs) (each x (inl refl))
    (gathers_take next own f none n xs (λ i a b. lack (suc i) (omega arith) (omega arith)) (λ y i. each y (inr i))))

-- ---- in their order

-- the gates at the places before i have their sets
pub record GatheredTo (p : Pipeline) (own : ℕ → Bool) (t : ℕ) (rails order : List ℕ) (c : Counts) (sets : List ℕ) (i : ℕ) : Type 0 where
  pub seeds : Seeds p own t rails c sets
  pub done : (j : ℕ) → j < i → Gathers (gate_steps p) own ((2 * c.inputs + gate_at_place order j) ∷ []) (lane t (get_or sets (2 * c.inputs + gate_at_place order j) 0))

pub gathered_none : (p : Pipeline) (own : ℕ → Bool) (t : ℕ) (rails order : List ℕ) (c : Counts) (sets : List ℕ) → Seeds p own t rails c sets → GatheredTo p own t rails order c sets 0
gathered_none p own t rails order c sets s = record { seeds = s; done = λ j h. absurd (omega arith) }

module _ (rails order raw : List ℕ) (c : Counts) (start : List ℕ) (g : Gatherable rails order raw c start) where
  abbrev n : ℕ
  n = 2 * c.inputs

  abbrev first : ℕ
  first = net_count c

  abbrev at : ℕ → ℕ
  at = gate_at_place order

  order_at : (i : ℕ) → i < c.gates → get_or (order_in c order) i 0 ≡ at i
  unfolding order_in
  order_at i h = get_d_tabulate at c.gates i 0 h

  count : length (stage_gates c raw) ≡ c.gates
  unfolding stage_gates
  count = length_tabulate (gate_in raw) c.gates

  pub gate_at_holds : (i : ℕ) → i < c.gates → at i < c.gates
  gate_at_holds i h = omega (arith, order_at i h, count, g.ordered.gate i (omega (arith, count)))

  module _ (p : Pipeline) (own : ℕ → Bool) (t : ℕ) (h64 : t < 64) (r : RawLoaded p c raw) where
    -- a net that is no gate's
    plain : (x : ℕ) → ((k : ℕ) → k < c.gates → ¬ (x ≡ n + k)) → Gathers (gate_steps p) own (x ∷ []) (own x)
    plain x other = subst (Gathers (gate_steps p) own (x ∷ [])) (or-false (own x)) (gathers_step (gate_steps p) own x false (subst (λ (xs : List ℕ). Gathers (gate_steps p) own xs false) (sym (empty (gate_steps p x) none)) (gathers_none (gate_steps p) own)))
      where
        none : (v : ℕ) → In v (gate_steps p x) → ⊥
        none v i = let s = step_gate c.inputs (stage_gates c raw) x v (subst (In v) (steps_same p c raw r x) i) in other s.0 (omega (arith, s.1, count)) s.2

        empty : (xs : List ℕ) → ((v : ℕ) → In v xs → ⊥) → xs ≡ []
        empty [] f = refl
        empty (y ∷ xs) f = absurd (f y (inl refl))

    -- each net but the gates without a set yet
    member : (sets : List ℕ) → Seeds p own t rails c sets → (x : ℕ) → ((k : ℕ) → k < c.gates → x ≡ n + k → Gathers (gate_steps p) own (x ∷ []) (lane t (get_or sets x 0)))
        → Gathers (gate_steps p) own (x ∷ []) (is_member rails first sets t x)
    member sets s x gate = go (dec_lt x n) (dec_lt x first)
      where
        go : Dec (x < n) → Dec (x < first) → Gathers (gate_steps p) own (x ∷ []) (is_member rails first sets t x)
        go (yes l) m =
            subst (Gathers (gate_steps p) own (x ∷ [])) (sym (member_before rails first sets x t (omega arith) ∙ s.inputs x l)) (plain x (λ k h e. omega arith))
        go (no l) (yes m) =
            subst (Gathers (gate_steps p) own (x ∷ [])) (sym (member_before rails first sets x t m)) (gate (x - n) (omega arith) (omega arith))
        go (no l) (no m) =
            subst (Gathers (gate_steps p) own (x ∷ [])) (sym (member_late rails first sets x t (omega arith) ∙ s.late x (omega arith))) (plain x (λ k h e. omega arith))

    pub gathered_more : (sets : List ℕ) (i v : ℕ) → i < c.gates → first ≤ length sets → SetOf rails first sets (pins_in raw (at i)) v → GatheredTo p own t rails order c sets i
        → GatheredTo p own t rails order c (set sets (n + at i) v) (i + 1)
    gathered_more sets i v h room f w = record {
      seeds = record {
        inputs = λ x l. ap (lane t) (get_or-set_other sets (n + at i) x v 0 (omega arith)) ∙ w.seeds.inputs x l;
        gates = w.seeds.gates;
        none = w.seeds.none;
        late = w.seeds.late;
      };
      done = λ j l. go j l (ℕ_discrete j i);
    }
      where
        small : at i < c.gates
        small = gate_at_holds i h

        few : ℕ
        few = pin_count (cell_in raw (at i))

        lack : (j : ℕ) → pin_count (cell_in raw (at i)) ≤ j → j < 4 → get_or (pins_in raw (at i)) j 0 ≡ absent
        lack zero a b = r.lacks (at i) 0 small a b
        lack (suc zero) a b = r.lacks (at i) 1 small a b
        lack (suc (suc zero)) a b = r.lacks (at i) 2 small a b
        lack (suc (suc (suc zero))) a b = r.lacks (at i) 3 small a b
        lack (suc (suc (suc (suc j)))) a b = absurd (omega arith)

        fed : (x j : ℕ) → In x (gate_in raw (at i)).pins → j < c.gates → x ≡ n + j → Gathers (gate_steps p) own (x ∷ []) (lane t (get_or sets x 0))
        fed x j a b e =
            let feeds = subst (In (n + j)) (sym (gate_pins_holds p c raw r (at i) small) ∙ steps_same p c raw r (n + at i) ∙ steps_gate c.inputs (stage_gates c raw) (at i)) (subst (λ (y : ℕ). In y (gate_in raw (at i)).pins) e a) in
            let s = g.ordered.earlier i j (omega (arith, count)) (omega (arith, count)) (subst (λ (y : ℕ). In (n + j) (loops.pins_at (stage_gates c raw) y)) (sym (order_at i h)) feeds) in
            let q : n + at s.0 ≡ x = omega (arith, s.1, s.2, order_at s.0 (omega (arith, s.1))) in
            subst (λ (y : ℕ). Gathers (gate_steps p) own (y ∷ []) (lane t (get_or sets y 0))) q (w.done s.0 s.1)

        pins : Gathers (gate_steps p) own (gate_steps p (n + at i)) (lane t v)
        pins =
            subst (λ (xs : List ℕ). Gathers (gate_steps p) own xs (lane t v)) (sym (gate_pins_holds p c raw r (at i) small))
            (subst (Gathers (gate_steps p) own (gate_in raw (at i)).pins) (sym (f t h64))
            (gathers_take (gate_steps p) own (is_member rails first sets t) no_absent few (pins_in raw (at i)) lack (λ x a. member sets w.seeds x (λ j b e. fed x j a b e))))
          where
            no_absent : is_member rails first sets t absent ≡ false
            no_absent = let far : first ≤ absent = omega (arith, g.within.inputs_in, g.within.gates_in_holds) in member_late rails first sets absent t far ∙ w.seeds.late absent far ∙ w.seeds.none

        go : (j : ℕ) → j < i + 1 → Dec (j ≡ i) → Gathers (gate_steps p) own ((n + at j) ∷ []) (lane t (get_or (set sets (n + at i) v) (n + at j) 0))
        go j l (yes q) =
            let same : at j ≡ at i = ap at q in
            rw (same, get_or-set_same sets (n + at i) v 0 (omega (arith, small))) (subst (Gathers (gate_steps p) own ((n + at i) ∷ [])) (ap (λ (b : Bool). b || lane t v) (w.seeds.gates (at i) small)) (gathers_step (gate_steps p) own (n + at i) (lane t v) pins))
        go j l (no d) =
            let other : ¬ (n + at j ≡ n + at i) = λ e. d (g.ordered.once j i (omega (arith, count)) (omega (arith, count)) (order_at j (omega arith) ∙ omega arith ∙ sym (order_at i h))) in
            rw (get_or-set_other sets (n + at i) (n + at j) v 0 other) (w.done j (omega arith))

    pub gathered_all : (sets : List ℕ) (i : ℕ) → c.gates ≤ i → GatheredTo p own t rails order c sets i → (x : ℕ) → Gathers (gate_steps p) own (x ∷ []) (is_member rails first sets t x)
    gathered_all sets i l w x = member sets w.seeds x (λ k h e.
        let s = g.ordered.stands k (omega (arith, count)) in
        let q : n + at s.0 ≡ x = omega (arith, s.1, s.2, count, order_at s.0 (omega (arith, s.1, count))) in
        subst (λ (y : ℕ). Gathers (gate_steps p) own (y ∷ []) (lane t (get_or sets y 0))) q (w.done s.0 (omega (arith, s.1, count))))

    -- ---- the data of a register

    pub data_gathers : (sets regs : List ℕ) (u v : ℕ) → ((x : ℕ) → Gathers (gate_steps p) own (x ∷ []) (is_member rails first sets t x)) → u < register_count p → RegisterRow p regs u
        → SetOf rails first sets (register_slot regs u 1 ∷ register_slot regs u 2 ∷ []) v → Gathers (gate_steps p) own (data_of p u) (lane t v)
    unfolding some
    data_gathers sets regs u v all h row f =
        let a = register_slot regs u 1 in
        let b = register_slot regs u 2 in
        let e : data_of p u ≡ a ∷ b ∷ [] = data_two p u h ∙ rw (row.data_net false, row.data_net true) in
        rw (e, f t h64) (subst (Gathers (gate_steps p) own (a ∷ b ∷ [])) (two (is_member rails first sets t a) (is_member rails first sets t b))
        (gathers_more (gate_steps p) own a (b ∷ []) _ _ (all a) (all b)))
      where
        two : (b c : Bool) → (b || c) ≡ cond b true (cond c true false)
        two true c = refl
        two false true = refl
        two false false = refl

-- register by register
pub record FilledTo (rails : List ℕ) (first : ℕ) (sets regs before sources : List ℕ) (t : ℕ) : Type 0 where
  pub long : length sources ≡ length before
  pub done : (u : ℕ) → u < t → SetOf rails first sets (register_slot regs u 1 ∷ register_slot regs u 2 ∷ []) (get_or sources u 0)

pub filled_none : (rails : List ℕ) (first : ℕ) (sets regs sources : List ℕ) → FilledTo rails first sets regs sources sources 0
filled_none rails first sets regs sources = record { long = refl; done = λ u h. absurd (omega arith) }

pub filled_more : (rails : List ℕ) (first : ℕ) (sets regs before sources : List ℕ) (t v : ℕ) → t < length sources
    → SetOf rails first sets (register_slot regs t 1 ∷ register_slot regs t 2 ∷ []) v → FilledTo rails first sets regs before sources t
    → FilledTo rails first sets regs before (set sources t v) (t + 1)
filled_more rails first sets regs before sources t v h f w = record { long = length-set sources t v ∙ w.long; done = λ u l. go u l (ℕ_discrete u t) }
  where
    go : (u : ℕ) → u < t + 1 → Dec (u ≡ t) → SetOf rails first sets (register_slot regs u 1 ∷ register_slot regs u 2 ∷ []) (get_or (set sources t v) u 0)
    go u l (yes q) = rw (q, get_or-set_same sources t v 0 h) f
    go u l (no d) = rw (get_or-set_other sources t u v 0 d) (w.done u (omega arith))
