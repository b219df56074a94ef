-- A register is circular exactly if it comes from itself or has a C-element without a place at its Ki; where none is, what opening finds stands behind the Ki.
-- Assumes nothing.
use Prim.Native.Nat.{ℕ, zero, suc, ◌≤◌, ◌<◌}
use native.Mathlib.Omega.{arith}
use mathlib.Core.Path.{◌≡◌, refl, sym, ap, ◌∙◌, subst}
use mathlib.Core.Bool.{Bool, true, false, ◌||◌}
use mathlib.Core.List.{List}
use lib.ListN.{length, get_or}
use Rattle.runs.proofs.Test.{clash}
use Rattle.netlist.specs.declared.Counts.{Counts}
use Rattle.wiring_spec.specs.Parts.{Pipeline, register_count, ki_of}
use Rattle.wiring_spec.specs.Wiring.{reaches_itself, behind, is_loop, circular}
use Rattle.wiring_spec.specs.Passing.{Nowhere}
use Rattle.wiring_spec.specs.Tables.{register_slot}
use Rattle.wiring_spec.proofs.Passing.{itself_sound, itself_complete}
use Rattle.circuit.specs.Stage.{net_count}
use Rattle.circuit_place.specs.Placing.{place, waiting}
use Rattle.circuit_place.proofs.Order.{waits}
use Rattle.circuit_place.proofs.Looping.{loop-behind}
use Rattle.std.specs.Prelude.{Option, None}
use Rattle.check_open.specs.declared.Behind.{Behind}
use Rattle.check_open.specs.Opening.{Told, Table, nothing_behind}
use Rattle.check_open.proofs.Standing.{Opens, table_of, kos_behind, other_behind}
use Rattle.check_levels.specs.Graph.{source_in, ComesFrom}
use Rattle.check_rules.specs.Known.{BehindOf}
use Rattle.check_wiring.specs.Loaded.{part_nets, Ordered}
use Rattle.check_wiring.specs.Opened.{OpenedTo}

either : (a b : Bool) → (a ≡ true → b ≡ true) → (b ≡ true → a ≡ true) → a ≡ b
either true b f g = sym (f refl)
either false true f g = g refl
either false false f g = refl

module _ (p : Pipeline) (c : Counts) (nets regs : List ℕ) (o : Ordered p c nets regs) where
  pub few_nets : part_nets c ≤ 256
  few_nets = omega (arith, o.registers_are, o.parts.few, o.few_elements)

  ki_at : (k : ℕ) → k < register_count p → register_slot regs k 3 ≡ ki_of p k
  ki_at k h = (o.parts.register_row k h).ki_net

  loop-at : (k : ℕ) → waiting nets (net_count c) (part_nets c) (ki_of p k) ≡ behind p (is_loop p) k
  loop-at k = loop-behind p (net_count c) (part_nets c) nets regs o.parts o.before o.placed o.passed k

  -- ---- the first pass of 33

  module _ (closed : List ℕ) (from : ComesFrom p closed) (k : ℕ) (h : k < register_count p) where
    itself_is : source_in closed k k ≡ reaches_itself p k
    itself_is = either (source_in closed k k) (reaches_itself p k) (λ e. itself_complete p k (from.sound k k h h e)) (λ e. from.complete k k h h (itself_sound p k e))

    at_ki : waiting nets (net_count c) (part_nets c) (register_slot regs k 3) ≡ behind p (is_loop p) k
    at_ki = ap (waiting nets (net_count c) (part_nets c)) (ki_at k h) ∙ loop-at k

    pub circular_itself : source_in closed k k ≡ true → true ≡ circular p k
    unfolding circular
    circular_itself e = sym (ap (λ (b : Bool). b || behind p (is_loop p) k) (sym itself_is ∙ e))

    pub circular_ki : source_in closed k k ≡ false → waiting nets (net_count c) (part_nets c) (register_slot regs k 3) ≡ circular p k
    unfolding circular
    circular_ki e = at_ki ∙ sym (ap (λ (b : Bool). b || behind p (is_loop p) k) (sym itself_is ∙ e))

  -- ---- what opening finds

  pub table_new : (met : List (Option Behind)) → length met ≡ part_nets c → ((i : ℕ) → get_or met i None ≡ None) → Table nets (net_count c) met
  table_new = table_of p (net_count c) (part_nets c) nets regs o.parts o.long o.before o.placed o.passed

  module _ (none : Nowhere p (circular p)) where
    no_loop : (k : ℕ) → k < register_count p → behind p (is_loop p) k ≡ false
    unfolding circular
    no_loop k h = go (reaches_itself p k) (behind p (is_loop p) k) (none k h)
      where
        go : (a b : Bool) → (a || b) ≡ false → b ≡ false
        go true b e = absurd (clash refl e)
        go false b e = e

    opens : (k : ℕ) → k < register_count p → Opens p nets (net_count c) (ki_of p k)
    opens k h v i = go (place nets (net_count c) (ki_of p k)) refl
      where
        go : (n : ℕ) → place nets (net_count c) (ki_of p k) ≡ n → 0 < n
        go zero e = absurd (clash (waits p (net_count c) (part_nets c) nets regs o.parts o.before o.placed o.passed (ki_of p k) v i e) (loop-at k ∙ no_loop k h))
        go (suc n) e = omega arith

    module _ (before found : List Behind) (w : OpenedTo nets (net_count c) regs before found (register_count p)) where
      told_at : (k : ℕ) → k < register_count p → Told nets (net_count c) (ki_of p k) (get_or found k nothing_behind)
      told_at k h = subst (λ (x : ℕ). Told nets (net_count c) x (get_or found k nothing_behind)) (ki_at k h) (w.told k h)

      pub behind_opened : BehindOf p found
      behind_opened = record {
        kos_of = λ k t h l. kos_behind p (net_count c) (part_nets c) nets regs o.parts o.long o.before o.placed o.passed k (opens k h) (get_or found k nothing_behind) (told_at k h) t l;
        others_of = λ k h. other_behind p (net_count c) (part_nets c) nets regs o.parts o.long o.before o.placed o.passed k (opens k h) (get_or found k nothing_behind) (told_at k h);
      }
