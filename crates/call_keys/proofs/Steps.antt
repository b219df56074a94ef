-- Nets switch one after the other, each time that with the least key. Assumes nothing.
use Rattle.std.specs.Prelude.{Some}
use Prim.Native.Nat.{ℕ, ◌+◌, ◌*◌, ◌≤◌, ◌<◌}
use native.Mathlib.Omega.{arith}
use mathlib.Core.Path.{◌≡◌, sym, ap, ◌∙◌, subst, fun_ext}
use mathlib.Core.List.{List}
use lib.ListN.{length, set}
use Rattle.runs.specs.Row.{Row, Rule, toggle}
use Rattle.runs.specs.Net.{Net, nets}
use Rattle.netlist.specs.declared.Counts.{Counts}
use Rattle.circuit.specs.Stage.{net_count}
use Rattle.circuit.specs.Rows.{RowFor}
use Rattle.circuit.proofs.Settling.{length_stage_gates}
use Rattle.circuit_steps.specs.Moves.{loaded_net, row_in}
use Rattle.circuit_steps.proofs.Rules.{goal_alike}
use Rattle.run_spec.specs.Played.{played}
use Rattle.run_spec.proofs.Played.{NextIs}
use Rattle.write_run.specs.Listing.{ListedRun}
use Rattle.write_run.proofs.Playing.{Begun, Playing, playing_start, playing_long, playing_full, playing_none, playing_room, playing_turn}
use Rattle.call_keys.specs.Lists.{BestOf, by_keys}
use Rattle.call_keys.proofs.Best.{best_none, best_next}

module _ (c : Counts) (code : List ℕ) (step : Rule) (key : ℕ → ℕ) where
  abbrev N : Net
  N = loaded_net c code

  all_nets_holds : nets N ≡ net_count c
  all_nets_holds = ap (λ (g : ℕ). 2 * c.inputs + g) (length_stage_gates c code)

  -- some nets have switched
  pub record Walking (b : Begun) (list row : List ℕ) (count : ℕ) : Type 0 where
    pub listing : Playing step key (nets N) b list count (row_in c row)
    pub row_for_holds : RowFor c row

  pub walk_start : (before row : List ℕ) (start : ℕ) → RowFor c row → start + net_count c ≤ length before
      → Walking (record { list = before; start = start; row = row_in c row }) before row start
  walk_start before row start r room = record {
    listing = playing_start step key (nets N) (record { list = before; start = start; row = row_in c row }) (omega (arith, all_nets_holds));
    row_for_holds = r;
  }

  module _ (b : Begun) (list row : List ℕ) (count : ℕ) (w : Walking b list row count) where
    abbrev r : Row
    r = row_in c row

    abbrev Done : Type 0
    Done = ListedRun (played step key (nets N) (nets N) b.row) b.list b.start b.row count list r

    pub walk_long : length list ≡ length b.list
    walk_long = playing_long step key (nets N) b list count r w.listing

    pub walk_full : b.start + net_count c ≤ count → Done
    walk_full h = playing_full step key (nets N) b list count r w.listing (omega (arith, all_nets_holds))

    module _ (net : ℕ) (best : BestOf (step r) key (net_count c) (net_count c) net) where
      found : BestOf (step r) key (nets N) (nets N) net
      found = subst (λ (n : ℕ). BestOf (step r) key n n net) (sym all_nets_holds) best

      pub walk_none : net ≡ net_count c → Done
      walk_none e = playing_none step key (nets N) b list count r w.listing (best_none (step r) key (nets N) net found (e ∙ sym all_nets_holds))

      module _ (d : ¬ (net ≡ net_count c)) (left : count < b.start + net_count c) where
        pub is_net_holds : net < net_count c
        is_net_holds = omega (arith, best.within, d)

        next : NextIs key (step r) (nets N) (Some net)
        next = best_next (step r) key (nets N) net found (λ q. d (q ∙ all_nets_holds))

        pub walk_room : count < length list
        walk_room = playing_room step key (nets N) b list count r w.listing net next (omega (arith, all_nets_holds))

        pub walk_turn : (row' : List ℕ) → RowFor c row' → row_in c row' ≡ toggle r net → Walking b (set list count net) row' (count + 1)
        walk_turn row' ro e = record {
          listing = rw e (playing_turn step key (nets N) b list count r w.listing net next (omega (arith, all_nets_holds)));
          row_for_holds = ro;
        }

-- only the rails of a goal count
pub goal_same : (c : Counts) (code : List ℕ) (a b : Row) → ((k : ℕ) → k < 2 * c.inputs → a k ≡ b k) → (key : ℕ → ℕ) (r : Row)
    → by_keys (loaded_net c code) a key r ≡ by_keys (loaded_net c code) b key r
goal_same c code a b same key r =
    ap (λ (f : Rule). played f key (nets (loaded_net c code)) (nets (loaded_net c code)) r) (fun_ext (λ s. fun_ext (λ k. goal_alike (loaded_net c code) a b same s k)))
