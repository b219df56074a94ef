-- Visiting what a gate comes from, pin by pin; and what it tells of a gate that reaches itself.
-- Assumes nothing.
use Prim.Native.Nat.{ℕ, ◌+◌, ◌-◌, ◌*◌, ◌≤◌, ◌<◌}
use native.Mathlib.Omega.{arith}
use native.Mathlib.Decide.{ℕ_discrete, dec_lt}
use mathlib.Core.Path.{◌≡◌, refl, sym, ap, ◌∙◌, subst}
use mathlib.Core.Bool.{Bool, true, false}
use mathlib.Core.List.{List}
use lib.ListN.{length, get_or, set}
use lib.Dec.{eqb}
use borrow.Author.Tests.{ltb-true, lt-ltb, le-ltb, eq-eqb, ne_eqb}
use Rattle.netlist.specs.declared.Counts.{Counts}
use Rattle.netlist.specs.Content.{Gate}
use Rattle.verdict.specs.Rows.{high}
use Rattle.verdict.specs.Levels.{sum}
use Rattle.verdict.specs.Graph.{Leads, here, onward}
use Rattle.verdict.specs.Loops.{In, pins_at, gate_steps, reaches_itself}
use Rattle.verdict.proofs.Graph.{leads_trans}
use Rattle.verdict.proofs.Reaching.{steps_gate, step_gate, reaches_sound, reaches_complete}
use Rattle.circuit.specs.Stage.{net_count, pin_in, stage_gates, StageLoaded}
use Rattle.circuit.proofs.Settling.{length_stage_gates}
use Rattle.circuit_order.specs.Marks.{Left, Visited, Pins, FirstPins, From}
use Rattle.circuit_order.specs.Placing.{WaitTo}
use Rattle.circuit_order.proofs.Feeding.{marks_set, pin_in_holds, pin_out}
use Rattle.circuit_order.proofs.Sums.{sum_set}
use Rattle.circuit_order.proofs.Placing.{never, high_same, high_other}

-- a mark that is not high is low
off : (b : Bool) → ¬ (b ≡ true) → b ≡ false
off true h = absurd (h refl)
off false h = refl

module _ (c : Counts) where
  abbrev net : ℕ → ℕ
  net k = 2 * c.inputs + k

  -- one gate is left no more
  module _ (left : List ℕ) (s : Left c left) (k : ℕ) (h : k < c.gates) where
    inside : net k < length left
    inside = omega (arith, s.marks_for.long, s.marks_for.room)

    pub gone_low : high (set left (net k) 0) (net k) ≡ false
    gone_low = high_same left (net k) 0 inside

    pub gone_other : (p : ℕ) → ¬ (p ≡ net k) → high (set left (net k) 0) p ≡ high left p
    gone_other p d = high_other left (net k) 0 p d

    pub gone_fewer : (p : ℕ) → high (set left (net k) 0) p ≡ true → high left p ≡ true
    gone_fewer p e = go (ℕ_discrete p (net k))
      where
        go : Dec (p ≡ net k) → high left p ≡ true
        go (yes q) = absurd (never (ap (high (set left (net k) 0)) (sym q) ∙ e) gone_low)
        go (no d) = sym (gone_other p d) ∙ e

    pub gone_left : Left c (set left (net k) 0)
    gone_left = record { marks_for = marks_set c left s.marks_for (net k) 0 (omega arith) (omega arith); only = λ p e. s.only p (gone_fewer p e) }

    pub gone_sum : high left (net k) ≡ true → sum (set left (net k) 0) < sum left
    gone_sum e = omega (arith, sum_set left (net k) 0 inside, ltb-true 0 (get_or left (net k) 0) e)

  module _ (code : List ℕ) (loaded : StageLoaded c code) (k : ℕ) (hk : k < c.gates) where
    abbrev gates : List Gate
    gates = stage_gates c code

    abbrev steps : ℕ → List ℕ
    steps = gate_steps c.inputs gates

    pub visit_start : (before : List ℕ) → Left c before → Visited c code before before (FirstPins c code k 0)
    visit_start before s = record {
      stays = s;
      fewer = λ p e. e;
      less = omega arith;
      pins = λ p f. absurd (omega (arith, f.1));
      closed = λ x e f. absurd (never e f);
      reached = λ p e f. absurd (never e f);
    }

    module _ (before left : List ℕ) (i : ℕ) (l : i < 4) (v : Visited c code before left (FirstPins c code k i)) where
      abbrev at : ℕ
      at = pin_in code k i

      more : {p : ℕ} → FirstPins c code k i p → FirstPins c code k (i + 1) p
      more f = (f.0, omega (arith, f.1), f.2, f.3)

      pub visit_skip : get_or left at 0 ≤ 0 → Visited c code before left (FirstPins c code k (i + 1))
      visit_skip e = record {
        stays = v.stays;
        fewer = v.fewer;
        less = v.less;
        pins = λ p f. pins p f (ℕ_discrete f.0 i);
        closed = v.closed;
        reached = λ p a b. let r = v.reached p a b in (r.0, more r.1, r.2);
      }
        where
          pins : (p : ℕ) (f : FirstPins c code k (i + 1) p) → Dec (f.0 ≡ i) → high left p ≡ false
          pins p f (yes q) = ap (high left) (f.2 ∙ ap (pin_in code k) q) ∙ le-ltb 0 (get_or left at 0) e
          pins p f (no d) = v.pins p (f.0, omega (arith, f.1), f.2, f.3)

      -- a pin whose gate is left
      module _ (e : 0 < get_or left at 0) where
        o : (j : ℕ) × (j < c.gates) × (at ≡ net j)
        o = v.stays.only at (lt-ltb 0 (get_or left at 0) e)

        pub visit_gate : (2 * c.inputs ≤ at) × (at - 2 * c.inputs < c.gates)
        visit_gate = (omega (arith, o.2), omega (arith, o.1, o.2))

        abbrev j : ℕ
        j = at - 2 * c.inputs

        at-is : net j ≡ at
        at-is = omega (arith, visit_gate.0)

        abbrev once : List ℕ
        once = set left at 0

        once_is : once ≡ set left (net j) 0
        once_is = ap (λ (p : ℕ). set left p 0) (sym at-is)

        at_high : high left (net j) ≡ true
        at_high = ap (high left) at-is ∙ lt-ltb 0 (get_or left at 0) e

        pub visit_left : Left c once
        visit_left = subst (Left c) (sym once_is) (gone_left left v.stays j visit_gate.1)

        pub visit_sum : sum once < sum before
        visit_sum = omega (arith, ap sum once_is, gone_sum left v.stays j visit_gate.1 at_high, v.less)

        module _ (left' : List ℕ) (w : Visited c code once left' (Pins c code j)) where
          here_pin : FirstPins c code k (i + 1) at
          here_pin = (i, omega arith, refl, omega (arith, visit_gate.0, visit_gate.1))

          fewer' : (p : ℕ) → high left' p ≡ true → high left p ≡ true
          fewer' p a = gone_fewer left v.stays j visit_gate.1 p (subst (λ (m : List ℕ). high m p ≡ true) once_is (w.fewer p a))

          lower : (p : ℕ) → high left p ≡ false → high left' p ≡ false
          lower p a = off (high left' p) (λ b. never (fewer' p b) a)

          at_low : high left' at ≡ false
          at_low = off (high left' at) (λ b. never (w.fewer at b) (ap (high once) (sym at-is) ∙ ap (λ (m : List ℕ). high m (net j)) once_is ∙ gone_low left v.stays j visit_gate.1))

          still : (p : ℕ) → ¬ (p ≡ at) → high left p ≡ true → high once p ≡ true
          still p d a = ap (λ (m : List ℕ). high m p) once_is ∙ gone_other left v.stays j visit_gate.1 p (λ q. d (q ∙ at-is)) ∙ a

          pub visit_more : Visited c code before left' (FirstPins c code k (i + 1))
          visit_more = record {
            stays = w.stays;
            fewer = λ p a. v.fewer p (fewer' p a);
            less = omega (arith, w.less, visit_sum);
            pins = λ p f. pins p f (ℕ_discrete f.0 i);
            closed = λ x a b. closed x a b (high left (net x)) refl;
            reached = λ p a b. reached p a b (high left p) refl;
          }
            where
              pins : (p : ℕ) (f : FirstPins c code k (i + 1) p) → Dec (f.0 ≡ i) → high left' p ≡ false
              pins p f (yes q) = ap (high left') (f.2 ∙ ap (pin_in code k) q) ∙ at_low
              pins p f (no d) = lower p (v.pins p (f.0, omega (arith, f.1), f.2, f.3))

              seen : (x : ℕ) → high left (net x) ≡ true → high left' (net x) ≡ false → Dec (net x ≡ at) → (p : ℕ) → In p (pins_at gates x) → high left' p ≡ false
              seen x a b (yes q) p r = w.pins p (subst (λ (m : ℕ). In p (pins_at gates m)) (omega (arith, q)) r)
              seen x a b (no d) p r = w.closed x (still (net x) d a) b p r

              closed : (x : ℕ) → high before (net x) ≡ true → high left' (net x) ≡ false → (t : Bool) → high left (net x) ≡ t
                  → (p : ℕ) → In p (pins_at gates x) → high left' p ≡ false
              closed x a b true h p r = seen x h b (ℕ_discrete (net x) at) p r
              closed x a b false h p r = lower p (v.closed x a h p r)

              came : (p : ℕ) → high left p ≡ true → high left' p ≡ false → Dec (p ≡ at) → (z : ℕ) × FirstPins c code k (i + 1) z × Leads steps p z
              came p a b (yes q) = (at, here_pin, subst (λ (m : ℕ). Leads steps m at) (sym q) here)
              came p a b (no d) =
                  let r = w.reached p (still p d a) b in
                  (at, here_pin, onward (subst (λ (m : ℕ). In r.0 (steps m)) at-is (rw (steps_gate c.inputs gates j) r.1)) r.2)

              reached : (p : ℕ) → high before p ≡ true → high left' p ≡ false → (t : Bool) → high left p ≡ t → (z : ℕ) × FirstPins c code k (i + 1) z × Leads steps p z
              reached p a b true h = came p h b (ℕ_discrete p at)
              reached p a b false h = let r = v.reached p a h in (r.0, more r.1, r.2)

    -- all four
    pub visit_done : (before left : List ℕ) → Visited c code before left (FirstPins c code k 4) → Visited c code before left (Pins c code k)
    visit_done before left v = record {
      stays = v.stays;
      fewer = v.fewer;
      less = v.less;
      pins = λ p x. pins p (pin_out c code loaded k hk p x) (dec_lt p (net_count c));
      closed = v.closed;
      reached = λ p a b. let r = v.reached p a b in (r.0, found r, r.2);
    }
      where
        found : {p : ℕ} (r : (z : ℕ) × FirstPins c code k 4 z × Leads steps p z) → In r.0 (pins_at gates k)
        found r = let f = r.1 in subst (λ (m : ℕ). In m (pins_at gates k)) (sym f.2) (pin_in_holds c code loaded k hk f.0 f.1 (omega (arith, f.2, f.3)))

        pins : (p : ℕ) → (i : ℕ) × (i < 4) × (p ≡ pin_in code k i) → Dec (p < net_count c) → high left p ≡ false
        pins p x (yes h) = v.pins p (x.0, x.1, x.2, h)
        pins p x (no h) = off (high left p) (λ e. let y = v.stays.only p e in omega (arith, y.1, y.2))

    -- ---- a gate that reaches itself

    module _ (before left : List ℕ) (f : From c code before k) (v : Visited c code before left (Pins c code k)) where
      high-self : high before (net k) ≡ true
      high-self = f.all k (omega arith) hk

      -- on the way back to k all gates are visited: they lie on a loop, so none comes before k
      back : {x : ℕ} → Leads steps (net k) x → (z : ℕ) → In z (steps (net k)) → Leads steps x z → high left x ≡ false → high left (net k) ≡ false
      back here z i r e = e
      back (onward {x = x} {z = y} i l) z s r e =
          let g = step_gate c.inputs gates x y i in
          let loop = reaches_complete c.inputs gates g.0 g.1 (y, rw (sym g.2) i, on_loop_lem x y g.0 g.2 l z s r) in
          back l z s (leads_trans steps x y r (onward i here)) (v.closed g.0 (high-later g.0 g.1 loop) (ap (high left) (sym g.2) ∙ e) y g.3)
        where
          on_loop_lem : (x y m : ℕ) → x ≡ net m → Leads steps (net k) y → (z : ℕ) → In z (steps (net k)) → Leads steps x z → Leads steps (net m) y
          on_loop_lem x y m q l z s r = subst (λ (u : ℕ). Leads steps u y) q (leads_trans steps (net k) x l (onward s r))

          high-later : (m : ℕ) → m < length gates → reaches_itself c.inputs gates m ≡ true → high before (net m) ≡ true
          high-later m h e = go (dec_lt m k)
            where
              go : Dec (m < k) → high before (net m) ≡ true
              go (yes b) = absurd (never e (f.none m b))
              go (no b) = f.all m (omega arith) (omega (arith, h, length_stage_gates c code))

      found : high left (net k) ≡ false → reaches_itself c.inputs gates k ≡ true
      found e =
          let r = v.reached (net k) high-self e in
          reaches_complete c.inputs gates k (omega (arith, length_stage_gates c code)) (r.0, rw (steps_gate c.inputs gates k) r.1, r.2)

      visited : reaches_itself c.inputs gates k ≡ true → high left (net k) ≡ false
      visited e =
          let r = reaches_sound c.inputs gates k e in
          back r.2 r.0 r.1 here (v.pins r.0 (rw (steps_gate c.inputs gates k) at r.1))

      pub visit_tells : eqb (get_or left (net k) 0) 0 ≡ reaches_itself c.inputs gates k
      visit_tells = go (dec_lt 0 (get_or left (net k) 0))
        where
          go : Dec (0 < get_or left (net k) 0) → eqb (get_or left (net k) 0) 0 ≡ reaches_itself c.inputs gates k
          go (yes h) = ne_eqb (get_or left (net k) 0) 0 (λ e. omega arith) ∙ sym (off (reaches_itself c.inputs gates k) (λ e. never (lt-ltb 0 _ h) (visited e)))
          go (no h) = eq-eqb (get_or left (net k) 0) 0 (omega arith) ∙ sym (found (le-ltb 0 (get_or left (net k) 0) (omega arith)))

  -- ---- gate by gate

  pub from_start : (code left : List ℕ) → WaitTo c left c.gates → From c code left 0
  from_start code left w = record {
    stays = record { marks_for = w.marks_for; only = w.only };
    later = λ k e. omega arith;
    all = λ k a b. w.all k b;
    none = λ k h. absurd (omega arith);
  }

  pub from_more : (code left : List ℕ) (g : ℕ) → g < c.gates → From c code left g → reaches_itself c.inputs (stage_gates c code) g ≡ false → From c code (set left (net g) 0) (g + 1)
  from_more code left g h f e = record {
    stays = gone_left left f.stays g h;
    later = λ k x. later k x (ℕ_discrete k g);
    all = λ k a b. gone_other left f.stays g h (net k) (λ q. omega arith) ∙ f.all k (omega arith) b;
    none = λ k x. none k x (ℕ_discrete k g);
  }
    where
      later : (k : ℕ) → high (set left (net g) 0) (net k) ≡ true → Dec (k ≡ g) → g + 1 ≤ k
      later k x (yes q) = absurd (never (rw q at x) (gone_low left f.stays g h))
      later k x (no d) = omega (arith, f.later k (gone_fewer left f.stays g h (net k) x))

      none : (k : ℕ) → k < g + 1 → Dec (k ≡ g) → reaches_itself c.inputs (stage_gates c code) k ≡ false
      none k x (yes q) = rw q e
      none k x (no d) = f.none k (omega arith)
