-- The rise and the fall of a stage without loops that are played with some nets held back: each is legal, and leaves the row that is settled with these
-- nets held low, or kept.
-- Assumes nothing.
use Prim.Native.Nat.{ℕ, suc, ◌+◌, ◌-◌, ◌≤◌, ◌<◌}
use native.Mathlib.Omega.{arith}
use mathlib.Core.Path.{◌≡◌, refl, sym, ap, ◌∙◌, subst, fun_ext}
use mathlib.Core.Bool.{Bool, true, false, not, cond, ◌&&◌, and-true}
use mathlib.Core.List.{List, [], ◌∷◌}
use Rattle.runs.specs.Row.{Row, Rule, low, toggle, after, Legal, Ended, ◌∖◌, count}
use Rattle.runs.specs.Net.{Net, nets, rise_step, fall_step, RiseList, RiseEnd, FallList, FallEnd}
use Rattle.runs.specs.Settled.{Settled, SettledHeld, SettledKept}
use Rattle.runs.specs.Acyclic.{Acyclic}
use Rattle.runs.specs.FallWitness.{FullCycle}
use Rattle.runs.proofs.Test.{clash, and_left, not-true}
use Rattle.runs.proofs.Row.{toggle_high, count-≤, count_toggle}
use Rattle.runs.proofs.System.{System, can, Quiet, Ranked, mask, mask_ranked, complement, dual}
use Rattle.runs.proofs.Persistent.{can_rise, quiet_toggle, quiet_low}
use Rattle.runs.proofs.Settled as General
use Rattle.runs.proofs.Dual.{complement_complement, toggle_complement, after_complement, can_dual, dual_legal, dual_ended}
use Rattle.runs.proofs.Moves.{rise, rise_ranked, fall, fallen, fallen_ranked, kept_dual, settled_dual_quiet}
use Rattle.runs.proofs.Rise.{settled_ended}
use Rattle.runs.proofs.Fall.{fall_end_low}
use Rattle.runs.proofs.Witness.{rise_and_fall}
use Rattle.run_spec.specs.Played.{played, rise_by, fall_by}
use Rattle.run_spec.specs.Keys.{LeastFirst}
use Rattle.run_spec.proofs.Played.{Falls, played_legal, played_least, played_alike, least_ended}

-- ---- systems

module _ (S : System) (key : ℕ → ℕ) where
  -- a row in which no high net may fall, and how many nets are still low
  falls : Falls (can S) key S.size (Quiet S) (λ r. S.size - count S.size r)
  falls = record {
    inside = λ r k q e. S.up_inside r k (can_rise S r k q e).1;
    stays = λ r k q e. quiet_toggle S r k q e;
    fewer = λ r k q e.
        omega (
          arith,
          count_toggle S.size r k (S.up_inside r k (can_rise S r k q e).1) (can_rise S r k q e).0,
          count-≤ S.size (toggle r k),
        );
  }

  pub system_least : (r : Row) → Quiet S r → LeastFirst (can S) key r (played (can S) key S.size S.size r)
  system_least r q = played_least (can S) key S.size (Quiet S) (λ r. S.size - count S.size r) falls S.size r q (omega arith)

  pub system_ended : (r : Row) → Quiet S r → Ended (can S) (after r (played (can S) key S.size S.size r))
  system_ended r q = least_ended (can S) key r (played (can S) key S.size S.size r) (system_least r q)

-- nets that are held back, in a row in which no high net may fall
module _ (S : System) (X : Row) (key : ℕ → ℕ) where
  held_can : (r : Row) → Quiet S r → (k : ℕ) → (can S r ∖ X) k ≡ can (mask S X) r k
  held_can r q k = go (r k) (S.up r k) (S.down r k) (q k)
    where
      go : (b u d : Bool) → (b ≡ true → d ≡ false) → (cond b d u && not (X k)) ≡ cond b d (u && not (X k))
      go true u d f = rw (f refl)
      go false u d f = refl

  pub held_played : (n steps : ℕ) (r : Row) → Quiet S r → played (λ s. can S s ∖ X) key n steps r ≡ played (can (mask S X)) key n steps r
  held_played n steps r q =
      played_alike (λ s. can S s ∖ X) (can (mask S X)) key n (λ a b. Quiet S a × (a ≡ b)) (λ a b x k h. held_can a x.0 k ∙ ap (λ (s : Row). can (mask S X) s k) x.1)
      (λ a b k x e. (quiet_toggle S a k x.0 (and_left (can S a k) (not (X k)) e), ap (λ (s : Row). toggle s k) x.1)) steps r r (q, refl)

-- ---- the rise

module _ (S : Acyclic) (c X : Row) (key : ℕ → ℕ) where
  abbrev up : System
  up = rise S c

  low_quiet : Quiet up low
  low_quiet = quiet_low up

  abbrev rising : List ℕ
  rising = rise_by key S.net c X

  rise_masked : rising ≡ played (can (mask up X)) key (nets S.net) (nets S.net) low
  rise_masked = held_played up X key (nets S.net) (nets S.net) low low_quiet

  pub rise_list : RiseList S.net c rising
  rise_list = General.mask_legal up X low rising low_quiet (rw rise_masked (played_legal (can (mask up X)) key (nets S.net) (nets S.net) low))

  -- it leaves the row that is settled with X held low
  pub rise_arrives : (r : Row) → SettledHeld S.net c X r → after low rising ≡ r
  rise_arrives r held =
      let l = played (can (mask up X)) key (nets S.net) (nets S.net) low in
      ap (after low) rise_masked
      ∙ General.end_is (mask up X) (mask_ranked up X (rise_ranked S c)) low r l low_quiet held (played_legal (can (mask up X)) key (nets S.net) (nets S.net) low)
      (system_ended (mask up X) key low low_quiet)

-- ---- the fall

module _ (S : Acyclic) (c R : Row) (rest : Settled S.net c R) (X : Row) (key : ℕ → ℕ) where
  abbrev down : System
  down = fallen S

  rest-quiet : Quiet down (complement R)
  rest-quiet = settled_dual_quiet S c R rest

  abbrev falling : List ℕ
  falling = fall_by key S.net R X

  -- what falls rises in the complemented row
  upside_down : falling ≡ played (λ s. can down s ∖ X) key (nets S.net) (nets S.net) (complement R)
  upside_down =
      played_alike (λ s. fall_step S.net s ∖ X) (λ s. can down s ∖ X) key (nets S.net) (λ a b. b ≡ complement a)
      (λ a b x k h. ap (λ (t : Bool). t && not (X k)) (sym (can_dual (fall S) a k) ∙ ap (λ (s : Row). can down s k) (sym x)))
      (λ a b k x e. ap (λ (s : Row). toggle s k) x ∙ toggle_complement a k) (nets S.net) R (complement R) refl

  fall_masked : falling ≡ played (can (mask down X)) key (nets S.net) (nets S.net) (complement R)
  fall_masked = upside_down ∙ held_played down X key (nets S.net) (nets S.net) (complement R) rest-quiet

  legal : Legal (can (mask down X)) (complement R) falling
  legal = rw fall_masked (played_legal (can (mask down X)) key (nets S.net) (nets S.net) (complement R))

  pub fall_list : FallList S.net R falling
  fall_list = dual_legal (fall S) R falling (General.mask_legal down X (complement R) falling rest-quiet legal)

  -- it leaves the row that is settled by the fall rule with X kept
  pub fall_arrives : (r : Row) → SettledKept S.net X R r → after R falling ≡ r
  fall_arrives r kept =
      let l = played (can (mask down X)) key (nets S.net) (nets S.net) (complement R) in
      let e : after (complement R) l ≡ complement r =
      General.end_is (mask down X) (mask_ranked down X (fallen_ranked S)) (complement R) (complement r) l rest-quiet (kept_dual S X R r kept)
      (played_legal (can (mask down X)) key (nets S.net) (nets S.net) (complement R)) (system_ended (mask down X) key (complement R) rest-quiet) in
      sym (complement_complement (after R falling)) ∙ ap complement (sym (after_complement R falling) ∙ ap (after (complement R)) fall_masked ∙ e) ∙ complement_complement r

-- ---- by keys: nothing is held back

none_held : (step : Rule) → (λ s. step s ∖ low) ≡ step
none_held step = fun_ext (λ s. fun_ext (λ k. and-true (step s k)))

module _ (S : System) (key : ℕ → ℕ) where
  pub least_up : (r : Row) (l : List ℕ) → LeastFirst (can (dual S)) key (complement r) l → LeastFirst (can S) key r l
  least_up r [] p = λ k. sym (can_dual S r k) ∙ p k
  least_up r (k ∷ l) p = (
    sym (can_dual S r k) ∙ p.0,
    λ i e. p.1 i (can_dual S r i ∙ e),
    least_up (toggle r k) l (rw (toggle_complement r k) at p.2),
  )

pub rise_least : (S : Acyclic) (c : Row) (key : ℕ → ℕ) → LeastFirst (rise_step S.net c) key low (rise_by key S.net c low)
rise_least S c key =
    rw (none_held (rise_step S.net c)) (system_least (rise S c) key low (quiet_low (rise S c)))

pub fall_least : (S : Acyclic) (c R : Row) → Settled S.net c R → (key : ℕ → ℕ) → LeastFirst (fall_step S.net) key R (fall_by key S.net R low)
fall_least S c R rest key =
    least_up (fall S) key R (fall_by key S.net R low)
    (rw (upside_down S c R rest low key, none_held (can (fallen S))) (system_least (fallen S) key (complement R) (settled_dual_quiet S c R rest)))
