-- Placing a gate after those that feed it: pin by pin, and then itself.
-- Assumes nothing.
use Prim.Native.Nat.{ℕ, suc, ◌+◌, ◌-◌, ◌*◌, ◌≤◌, ◌<◌}
use native.Mathlib.Omega.{arith}
use native.Mathlib.Decide.{ℕ_discrete, dec_lt}
use mathlib.Core.Path.{◌≡◌, sym, ap, ◌∙◌}
use mathlib.Core.Bool.{true}
use mathlib.Core.List.{List}
use lib.ListN.{get_or, set}
use lib.Dec.{ltb}
use borrow.Author.Tests.{lt-ltb, le-ltb}
use Rattle.netlist.specs.declared.Counts.{Counts}
use Rattle.verdict.specs.Rows.{high}
use Rattle.verdict.specs.Levels.{sum}
use Rattle.verdict.specs.Loops.{In, pins_at, LoopFree}
use Rattle.verdict.proofs.Reaching.{rank_of, rank_of-≤, rank_pin}
use Rattle.circuit.specs.Stage.{pin_in, stage_gates}
use Rattle.circuit.proofs.Settling.{length_stage_gates}
use Rattle.circuit_order.specs.Placing.{Gone, Placing, is_ready, Ranks, PlacedAfter, AfterPins, Ordered}
use Rattle.circuit_order.proofs.Feeding.{pin_in_holds, unfed}
use Rattle.circuit_order.proofs.Sums.{sum_some}
use Rattle.circuit.specs.Form.{Reordered}
use Rattle.circuit.proofs.Reordering.{reordered_refl, reordered_trans, pin_kept, gates_kept}
use Rattle.circuit_order.proofs.Placing.{never, low, high_same, high_other}
use Rattle.circuit_order.proofs.Ordering.{ordered_full, all_ordered}

-- a net that waits no more stays so where all gates do that wait no more
still : (c : Counts) (waited waiting code : List ℕ) (placed : ℕ) → Placing c code waiting placed → ((j : ℕ) → Gone c waited j → Gone c waiting j)
    → (p : ℕ) → get_or waited p 0 ≡ 0 → get_or waiting p 0 ≡ 0
still c waited waiting code placed w kept p e = low waiting p (λ h.
    let o = w.only p h in
    let g : Gone c waited o.0 = ap (high waited) (sym o.2) ∙ ap (ltb 0) e in
    never (ap (high waiting) (sym o.2) ∙ h) (kept o.0 g))

module _ (c : Counts) (code waiting : List ℕ) (taken k : ℕ) (w : Placing c code waiting taken) where
  -- none deep
  pub after_none : PlacedAfter c code code waiting waiting taken k 0
  after_none = record { placing = w; reordered = reordered_refl c code; kept = λ j g. g; enough = λ rank r h. absurd (omega arith) }

  pub pins_start : AfterPins c code code waiting waiting taken k 0
  pins_start = record { placing = w; reordered = reordered_refl c code; kept = λ j g. g; done = λ m h. absurd (omega arith) }

module _ (c : Counts) (before code waited waiting : List ℕ) (placed k : ℕ) (hk : k < c.gates) where
  module _ (i : ℕ) (a : AfterPins c before code waited waiting placed k i) where
    -- the pin waits no more
    pub pins_skip : get_or waiting (pin_in code k i) 0 ≤ 0 → AfterPins c before code waited waiting placed k (i + 1)
    pins_skip h = record { placing = a.placing; reordered = a.reordered; kept = a.kept; done = λ m l. at m l (ℕ_discrete m i) }
      where
        at : (m : ℕ) → m < i + 1 → Dec (m ≡ i) → get_or waiting (pin_in code k m) 0 ≡ 0
        at m l (yes e) = rw e (omega arith)
        at m l (no d) = a.done m (omega arith)

    -- a pin that waits is the net of a gate
    pub pin_waits : 0 < get_or waiting (pin_in code k i) 0 → (2 * c.inputs ≤ pin_in code k i) × (pin_in code k i - 2 * c.inputs < c.gates)
    pin_waits h = let o = a.placing.only (pin_in code k i) (lt-ltb 0 _ h) in (omega (arith, o.2), omega (arith, o.1, o.2))

    module _ (l : i < 4) (code' waiting' : List ℕ) (placed' depth : ℕ) (h : 0 < get_or waiting (pin_in code k i) 0)
        (p : PlacedAfter c code code' waiting waiting' placed' (pin_in code k i - 2 * c.inputs) depth) where
      -- its gate is placed
      pub pins_more : get_or waiting' (pin_in code k i) 0 ≤ 0 → AfterPins c before code' waited waiting' placed' k (i + 1)
      pins_more n = record {
        placing = p.placing;
        reordered = reordered_trans c before code code' a.reordered p.reordered;
        kept = λ j g. p.kept j (a.kept j g);
        done = λ m q. at m q (ℕ_discrete m i);
      }
        where
          at : (m : ℕ) → m < i + 1 → Dec (m ≡ i) → get_or waiting' (pin_in code' k m) 0 ≡ 0
          at m q (yes e) = rw (e, pin_kept c code code' p.reordered k i l) (omega arith)
          at m q (no d) =
              ap (λ (x : ℕ). get_or waiting' x 0) (pin_kept c code code' p.reordered k m (omega arith))
              ∙ still c waiting waiting' code' placed' p.placing p.kept (pin_in code k m) (a.done m (omega arith))

      -- it is left, and so is k
      pub pins_stuck : 0 < get_or waiting' (pin_in code k i) 0 → PlacedAfter c before code' waited waiting' placed' k (suc depth)
      pins_stuck n = record {
        placing = p.placing;
        reordered = reordered_trans c before code code' a.reordered p.reordered;
        kept = λ j g. p.kept j (a.kept j g);
        enough = λ rank r b. absurd (left rank r b);
      }
        where
          in_pins : In (pin_in code k i) (pins_at (stage_gates c code) k)
          in_pins = let net = pin_waits h in pin_in_holds c code a.placing.loaded k hk i l (omega (arith, net.0, net.1))

          left : (rank : ℕ → ℕ) → Ranks c before rank → rank (2 * c.inputs + k) < suc depth → ⊥
          left rank r b =
              let net = pin_waits h in
              let e : 2 * c.inputs + (pin_in code k i - 2 * c.inputs) ≡ pin_in code k i = omega (arith, net.0) in
              let ranks : Ranks c code rank = λ q m x. r q m (rw (gates_kept c before code a.reordered) at x) in
              let g = p.enough rank ranks (omega (arith, ap rank e, ranks (pin_in code k i) k in_pins)) in
              never (lt-ltb 0 _ n) (ap (high waiting') (sym e) ∙ g)

  module _ (a : AfterPins c before code waited waiting placed k 4) (depth : ℕ) where
    -- it has its place by now
    pub after_gone : get_or waiting (2 * c.inputs + k) 0 ≡ 0 → PlacedAfter c before code waited waiting placed k depth
    after_gone e = record { placing = a.placing; reordered = a.reordered; kept = a.kept; enough = λ rank r b. ap (ltb 0) e }

    -- it is ready
    pub after_ready : ¬ (get_or waiting (2 * c.inputs + k) 0 ≡ 0) → is_ready c code waiting k ≡ true
    after_ready n = rw (lt-ltb 0 (get_or waiting (2 * c.inputs + k) 0) (omega arith), unfed c code waiting a.placing.loaded a.placing.marks_for k hk a.done)

    -- it takes the next place
    pub after_placed : (code' : List ℕ) → Placing c code' (set waiting (2 * c.inputs + k) 0) (placed + 1) → Reordered c code code'
        → PlacedAfter c before code' waited (set waiting (2 * c.inputs + k) 0) (placed + 1) k depth
    after_placed code' p r = record {
      placing = p;
      reordered = reordered_trans c before code code' a.reordered r;
      kept = λ j g. at j (a.kept j g) (ℕ_discrete j k);
      enough = λ rank r b. gone;
    }
      where
        gone : Gone c (set waiting (2 * c.inputs + k) 0) k
        gone = high_same waiting (2 * c.inputs + k) 0 (omega (arith, a.placing.marks_for.long, a.placing.marks_for.room))

        at : (j : ℕ) → Gone c waiting j → Dec (j ≡ k) → Gone c (set waiting (2 * c.inputs + k) 0) j
        at j g (yes e) = rw e gone
        at j g (no d) = high_other waiting (2 * c.inputs + k) 0 (2 * c.inputs + j) (λ e. d (omega arith)) ∙ g

-- ---- all gates

-- the first k gates are placed
pub record PlacedTo (c : Counts) (before code waiting : List ℕ) (placed k : ℕ) : Type 0 where
  pub placing : Placing c code waiting placed
  pub reordered : Reordered c before code
  pub gone : (j : ℕ) → j < k → Gone c waiting j

pub placed_start : (c : Counts) (code waiting : List ℕ) → Placing c code waiting 0 → PlacedTo c code code waiting 0 0
placed_start c code waiting p = record { placing = p; reordered = reordered_refl c code; gone = λ j l. absurd (omega arith) }

module _ (c : Counts) (before code waiting : List ℕ) (placed k : ℕ) (t : PlacedTo c before code waiting placed k) where
  module _ (code' waiting' : List ℕ) (placed' depth : ℕ) (p : PlacedAfter c code code' waiting waiting' placed' k depth) where
    pub placed_more : get_or waiting' (2 * c.inputs + k) 0 ≤ 0 → PlacedTo c before code' waiting' placed' (k + 1)
    placed_more n = record {
      placing = p.placing;
      reordered = reordered_trans c before code code' t.reordered p.reordered;
      gone = λ j l. at j l (ℕ_discrete j k);
    }
      where
        at : (j : ℕ) → j < k + 1 → Dec (j ≡ k) → Gone c waiting' j
        at j l (yes e) = rw e (le-ltb 0 (get_or waiting' (2 * c.inputs + k) 0) (omega arith))
        at j l (no d) = p.kept j (t.gone j (omega arith))

    -- gate k is left, though the depth is above all ranks
    pub placed_stuck : 0 < get_or waiting' (2 * c.inputs + k) 0 → 2 * c.inputs + c.gates < depth → Ordered c code' placed'
    placed_stuck n d = record {
      loaded = p.placing.loaded;
      all = all_ordered c code' waiting' placed' p.placing;
      some = λ x free.
          let gates = stage_gates c code in
          let f : LoopFree c.inputs gates = rw (sym (gates_kept c code code' p.reordered)) free in
          never (lt-ltb 0 _ n) (p.enough (rank_of c.inputs gates) (rank_pin c.inputs gates f) (omega (arith, rank_of-≤ c.inputs gates (2 * c.inputs + k), length_stage_gates c code)));
    }

  pub placed_full : c.gates ≤ k → Ordered c code placed
  placed_full h = ordered_full c code waiting placed t.placing (go (dec_lt 0 (sum waiting)))
    where
      go : Dec (0 < sum waiting) → c.gates ≤ placed
      go (yes l) = let s = sum_some waiting l in let o = t.placing.only s.0 s.1 in
          absurd (never (ap (high waiting) (sym o.2) ∙ s.1) (t.gone o.0 (omega (arith, o.1))))
      go (no l) = omega (arith, t.placing.total)
