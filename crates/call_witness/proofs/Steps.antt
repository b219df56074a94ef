-- Nets switch one after the other, each time the least that may. Assumes nothing.
use Rattle.std.specs.Prelude.{Some}
use Prim.Native.Nat.{ℕ, ◌+◌, ◌*◌, ◌≤◌, ◌<◌}
use native.Mathlib.Omega.{arith}
use native.Mathlib.Decide.{dec_lt, ℕ_discrete}
use mathlib.Core.Path.{◌≡◌, sym, ap, ◌∙◌, subst, fun_ext}
use mathlib.Core.Logic.{inl, inr}
use mathlib.Core.Bool.{Bool, true, false, not, ◌&&◌, and-true, and-false}
use mathlib.Core.List.{List}
use lib.ListN.{length, set}
use lib.Dec.{eqb}
use Rattle.runs.specs.Row.{Row, Rule, toggle, only}
use Rattle.runs.specs.Net.{Net, nets}
use Rattle.runs.proofs.Test.{clash, eqb_same, eqb_other}
use Rattle.netlist.specs.declared.Counts.{Counts}
use Rattle.circuit.specs.Stage.{net_count}
use Rattle.circuit.specs.Rows.{RowFor}
use Rattle.circuit.proofs.Settling.{length_stage_gates}
use Rattle.circuit_steps.specs.Moves.{moves, loaded_net, row_in}
use Rattle.circuit_steps.specs.Fed.{FedFrom}
use Rattle.circuit_steps.proofs.Local.{moves_other}
use Rattle.circuit_steps.proofs.Rules.{goal_alike}
use Rattle.write_run.specs.Listing.{ListedRun}
use Rattle.write_run.proofs.Playing.{Begun, Playing, playing_start, playing_long, playing_full, playing_none, playing_room, playing_turn}
use Rattle.run_spec.specs.Played.{played}
use Rattle.run_spec.proofs.Played.{Before, NextIs}
use Rattle.call_witness.specs.Lists.{moving, FirstFrom, LookFrom, least_first, GoalIn}

-- ---- looking for the next net

module _ (N : Net) (goal : Row) (held : ℕ) (r : Row) (net : ℕ) where
  pub at_held : net ≡ held → moving N goal held r net ≡ false
  at_held e = ap (λ (b : Bool). moves N goal r net && not b) (ap (λ (x : ℕ). eqb x held) e ∙ eqb_same held) ∙ and-false (moves N goal r net)

  pub not_held : ¬ (net ≡ held) → (b : Bool) → b ≡ moves N goal r net → b ≡ moving N goal held r net
  not_held d b e = e ∙ sym (ap (λ (x : Bool). moves N goal r net && not x) (eqb_other net held d) ∙ and-true (moves N goal r net))

-- none passes from a place on up to another
abbrev pub NoneTo : (ℕ → Bool) → ℕ → ℕ → Type 0
NoneTo test from to = (i : ℕ) → from ≤ i → i < to → test i ≡ false

pub none_more : (test : ℕ → Bool) (from to : ℕ) → NoneTo test from to → test to ≡ false → NoneTo test from (to + 1)
none_more test from to h e i a b = go (ℕ_discrete i to)
  where
    go : Dec (i ≡ to) → test i ≡ false
    go (yes p) = ap test p ∙ e
    go (no d) = h i a (omega arith)

pub found_first : (test : ℕ → Bool) (n from r : ℕ) → NoneTo test from r → r < n → test r ≡ true → FirstFrom test n from r
found_first test n from r h l e = record { within = omega arith; found = λ x. e; none = h }

pub found_none : (test : ℕ → Bool) (n from r : ℕ) → NoneTo test from r → r ≡ n → FirstFrom test n from r
found_none test n from r h e = record { within = omega arith; found = λ x. absurd (omega arith); none = h }

-- ---- one step after the other

abbrev self : ℕ → ℕ
self k = k

-- some nets have switched, and none below a place may switch now
pub record Walking (c : Counts) (code : List ℕ) (step : Rule) (b : Begun) (list row : List ℕ) (count from : ℕ) : Type 0 where
  pub listing : Playing step self (nets (loaded_net c code)) b list count (row_in c row)
  pub row_for_holds : RowFor c row
  pub from_in : from ≤ net_count c
  pub none : (j : ℕ) → j < from → step (row_in c row) j ≡ false

module _ (c : Counts) (code : List ℕ) (goal : Row) (held : ℕ) where
  abbrev N : Net
  N = loaded_net c code

  abbrev step : Rule
  step = moving N goal held

  all_nets_holds : nets N ≡ net_count c
  all_nets_holds = ap (λ (g : ℕ). 2 * c.inputs + g) (length_stage_gates c code)

  pub walk_start : (before row : List ℕ) (start : ℕ) → RowFor c row → start + net_count c ≤ length before
      → Walking c code step (record { list = before; start = start; row = row_in c row }) before row start 0
  walk_start before row start r room = record {
    listing = playing_start step self (nets N) (record { list = before; start = start; row = row_in c row }) (omega (arith, all_nets_holds));
    row_for_holds = r;
    from_in = omega arith;
    none = λ j h. absurd (omega arith);
  }

  module _ (b : Begun) (list row : List ℕ) (count from : ℕ) (w : Walking c code step b list row count from) where
    abbrev r : Row
    r = row_in c row

    abbrev Done : Type 0
    Done = ListedRun (least_first N goal held b.row) b.list b.start b.row count list r

    pub walk_long : length list ≡ length b.list
    walk_long = playing_long step self (nets N) b list count r w.listing

    -- no step is left to take
    pub walk_full : b.start + net_count c ≤ count → Done
    walk_full h = playing_full step self (nets N) b list count r w.listing (omega (arith, all_nets_holds))

    module _ (net : ℕ) (f : FirstFrom (step r) (net_count c) from net) where
      below : (j : ℕ) → j < net → step r j ≡ false
      below j h = go (dec_lt j from)
        where
          go : Dec (j < from) → step r j ≡ false
          go (yes l) = w.none j l
          go (no l) = f.none j (omega arith) h

      pub walk_none : net ≡ net_count c → Done
      walk_none e = playing_none step self (nets N) b list count r w.listing (λ j h. below j (omega (arith, all_nets_holds)))

      module _ (d : ¬ (net ≡ net_count c)) (left : count < b.start + net_count c) where
        pub is_net_holds : net < net_count c
        is_net_holds = omega (arith, f.within, d)

        next : NextIs self (step r) (nets N) (Some net)
        next = (omega (arith, is_net_holds, all_nets_holds), f.found is_net_holds, λ i h t. first i t (dec_lt i net))
          where
            first : (i : ℕ) → step r i ≡ true → Dec (i < net) → Before self net i
            first i t (yes l) = absurd (clash t (below i l))
            first i t (no l) = go (dec_lt net i)
              where
                go : Dec (net < i) → Before self net i
                go (yes m) = inl m
                go (no m) = inr (omega arith, omega arith)

        pub walk_room : count < length list
        walk_room = playing_room step self (nets N) b list count r w.listing net next (omega (arith, all_nets_holds))

        pub walk_turn : (fed : List ℕ) → FedFrom c code 0 fed → (row' : List ℕ) → RowFor c row' → row_in c row' ≡ toggle r net
            → (from' : ℕ) → LookFrom fed net from' → Walking c code step b (set list count net) row' (count + 1) from'
        walk_turn fed feeds row' rf e from' look = record {
          listing = rw e (playing_turn step self (nets N) b list count r w.listing net next (omega (arith, all_nets_holds)));
          row_for_holds = rf;
          from_in = omega (arith, look.not_above, is_net_holds);
          none = λ j h.
              ap (λ (x : Row). step x j) e
              ∙ ap (λ (b : Bool). b && not (eqb j held)) (moves_other c code fed feeds goal r net j (λ q. omega (arith, look.not_above)) (omega (arith, look.not_fed)))
              ∙ below j (omega (arith, look.not_above));
        }

-- ---- only the rails of a goal count

pub goal_same : (c : Counts) (code row : List ℕ) (goal : Row) (held : ℕ) → GoalIn c row goal → (r : Row)
    → least_first (loaded_net c code) (row_in c row) held r ≡ least_first (loaded_net c code) goal held r
goal_same c code row goal held is r =
    ap (λ (f : Rule). played f (λ k. k) (nets (loaded_net c code)) (nets (loaded_net c code)) r)
    (fun_ext (λ s. fun_ext (λ k. ap (λ (b : Bool). b && not (only held k)) (goal_alike (loaded_net c code) (row_in c row) goal is s k))))

pub listed_goal : (c : Counts) (code row : List ℕ) (goal : Row) (held : ℕ) → GoalIn c row goal → (before : List ℕ) (start : ℕ) (r₀ : Row) (end : ℕ) (list : List ℕ) (r : Row)
    → ListedRun (least_first (loaded_net c code) (row_in c row) held r₀) before start r₀ end list r
    → ListedRun (least_first (loaded_net c code) goal held r₀) before start r₀ end list r
listed_goal c code row goal held is before start r₀ end list r = subst (λ (l : List ℕ). ListedRun l before start r₀ end list r) (goal_same c code row goal held is r₀)
