-- The fall from a settled row: what holds after every list, at every end, and of rows settled by the fall rule. Each law is the rise's, of
-- the complemented row.
-- Assumes nothing.
use mathlib.Core.Path.{◌≡◌, refl, sym, ap, ◌∙◌, subst, fun_ext}
use mathlib.Core.Logic.{◌⊎◌, inl, inr, ◌≢◌}
use mathlib.Core.Bool.{Bool, true, false, not, cond, ◌&&◌, ◌||◌, and-true, or-true, or-false}
use mathlib.Core.List.{List}
use Prim.Native.Nat.{ℕ, ◌+◌, ◌≤◌, ◌<◌}
use native.Mathlib.Omega.{arith}
use lib.ListN.{length}
use Rattle.runs.specs.Exchange.{OneFromAnother}
use Rattle.runs.specs.Row.{Row, ◌∖◌, low, toggle, after, Legal, tally, count, times}
use Rattle.runs.specs.Net.{Net, rails, nets, IsGate, may_fall, fall_up, fall_down, fall_step, FallList, FallEnd}
use Rattle.runs.specs.Theory.{◌⊑◌, Reached}
use Rattle.runs.specs.Settled.{Settled, SettledKept}
use Rattle.runs.specs.Acyclic.{Acyclic}
use Rattle.runs.specs.Tight.{Released}
use Rattle.runs.specs.Promise.{GoesOn, Switched}
use Rattle.runs.proofs.Test.{clash, true?, not-false, and_left}
use Rattle.runs.proofs.Row.{count-∖}
use Rattle.runs.proofs.System.{can, Quiet, SupportedFrom, SettledFrom, Ranked, mask, mask_ranked, complement}
use Rattle.runs.proofs.Persistent.{can_rise, persistent, quiet_after, ⊑-after, length_after, times_after, goes_on}
use Rattle.runs.proofs.Settled as General
use Rattle.runs.proofs.Dual.{complement_complement, ⊑-complement, toggle_complement, after_complement, count_complement, can_dual, legal_dual, ended_dual, dual_goes_on, dual_reached, dual_exchanged}
use Rattle.runs.proofs.Exchange.{Swapped, exchange, at_most_once, one_from_another}
use Rattle.runs.proofs.Net.{Place, rail, gate, none, place, by_net_rail, by_net_gate, by_net_none, may_fall_low}
use Rattle.runs.proofs.Moves.{fall, fallen, fallen_ranked, kept_dual, dual_kept, released_dual, dual_released, settled_dual_quiet}
use Rattle.runs.proofs.Rise.{settled_inside}

-- ---- rows settled by the fall rule with the nets of X kept

kept_fell : (r x d : Bool) → r ≡ true → (r && (x || not d)) ≡ false → d ≡ true
kept_fell true true d u e = absurd (clash refl e)
kept_fell true false true u e = refl
kept_fell true false false u e = absurd (clash refl e)
kept_fell false x d u e = absurd (clash u refl)

kept_same : (r x d : Bool) → x ≡ true → (r && (x || not d)) ≡ r
kept_same true true d q = refl
kept_same true false d q = absurd (clash q refl)
kept_same false x d q = refl

-- such a row by its parts: rails, gates, and nets that do not exist
pub kept_by : (N : Net) (X R r : Row) → ((k : ℕ) → k < rails N → r k ≡ (R k && X k))
    → ((g : ℕ) → IsGate N g → r g ≡ (R g && (X g || not (may_fall N r g)))) → ((k : ℕ) → nets N ≤ k → r k ≡ R k) → SettledKept N X R r
kept_by N X R r f g h k = go (place N k)
  where
    go : Place N k → r k ≡ (R k && (X k || not (fall_down N r k)))
    go (rail x) = f k x ∙ ap (λ (b : Bool). R k && b) (sym (or-false (X k)))
        ∙ ap (λ (b : Bool). R k && (X k || not b)) (sym (by_net_rail N k true (may_fall N r k) x))
    go (gate x) = g k x ∙ ap (λ (b : Bool). R k && (X k || not b)) (sym (by_net_gate N k true (may_fall N r k) x))
    go (none x) = h k x ∙ sym (and-true (R k)) ∙ ap (λ (b : Bool). R k && b) (sym (or-true (X k)))
        ∙ ap (λ (b : Bool). R k && (X k || not b)) (sym (by_net_none N k true (may_fall N r k) x))

module _ (S : Acyclic) (X R : Row) where
  pub kept_one : (a b : Row) → SettledKept S.net X R a → SettledKept S.net X R b → a ≡ b
  kept_one a b p q =
      let ranked : Ranked (mask (fallen S) X) = mask_ranked (fallen S) X (fallen_ranked S) in
      let e : complement a ≡ complement b = General.settled_one (mask (fallen S) X) ranked (complement R) (complement a) (complement b) (kept_dual S X R a p) (kept_dual S X R b q) in
      sym (complement_complement a) ∙ ap complement e ∙ complement_complement b

  module _ (r : Row) (h : SettledKept S.net X R r) where
    pub kept-⊑ : r ⊑ R
    kept-⊑ k e = and_left (R k) (X k || not (fall_down S.net r k)) (sym (h k) ∙ e)

    pub kept_released : Released S.net R r
    kept_released k u e = kept_fell (R k) (X k) (fall_down S.net r k) u (sym (h k) ∙ e)

    pub kept_still : (k : ℕ) → X k ≡ true → r k ≡ R k
    kept_still k x = h k ∙ kept_same (R k) (X k) (fall_down S.net r k) x

-- a net at an end of the fall: it was high and may not fall
end_cases : (a r d u : Bool) → cond a d u ≡ false → (a ≡ true → r ≡ true) → (r ≡ true → a ≡ false → d ≡ true) → a ≡ (r && (false || not d))
end_cases true r d u e f g = rw (e, f refl)
end_cases false true d u e f g = rw (g refl refl)
end_cases false false d u e f g = refl

module _ (S : Acyclic) (c R : Row) (rest : Settled S.net c R) where
  quiet : Quiet (fallen S) (complement R)
  quiet = settled_dual_quiet S c R rest

  up : (l : List ℕ) → FallList S.net R l → Legal (can (fallen S)) (complement R) l
  up l p = legal_dual (fall S) R l p

  -- ---- after every list

  quiet_fall : (l : List ℕ) → FallList S.net R l → Quiet (fallen S) (complement (after R l))
  quiet_fall l p = rw (after_complement R l) at (quiet_after (fallen S) (complement R) l quiet (up l p))

  -- a net that may switch is high: no net rises
  pub fall_high : (l : List ℕ) → FallList S.net R l → (k : ℕ) → fall_step S.net (after R l) k ≡ true → after R l k ≡ true
  fall_high l p k e =
      let z : complement (after R l) k ≡ false = (can_rise (fallen S) (complement (after R l)) k (quiet_fall l p) (can_dual (fall S) (after R l) k ∙ e)).0 in
      not-false (after R l k) (λ x. clash (ap not x) z)

  -- a net that may switch still may after another has switched
  pub fall_persistent : (l : List ℕ) → FallList S.net R l → (i k : ℕ) → fall_step S.net (after R l) i ≡ true
      → fall_step S.net (after R l) k ≡ true → i ≢ k → fall_step S.net (toggle (after R l) i) k ≡ true
  fall_persistent l p i k a b n =
      let x : can (fallen S) (complement (after R l)) i ≡ true = can_dual (fall S) (after R l) i ∙ a in
      let y : can (fallen S) (complement (after R l)) k ≡ true = can_dual (fall S) (after R l) k ∙ b in
      let z : can (fallen S) (toggle (complement (after R l)) i) k ≡ true = persistent (fallen S) (complement (after R l)) i k (quiet_fall l p) x y n in
      sym (can_dual (fall S) (toggle (after R l) i) k) ∙ subst (λ (r : Row). can (fallen S) r k ≡ true) (toggle_complement (after R l) i) z

  pub fall-⊑ : (l : List ℕ) → FallList S.net R l → after R l ⊑ R
  fall-⊑ l p = ⊑-complement R (after R l) (rw (after_complement R l) at (⊑-after (fallen S) (complement R) l quiet (up l p)))

  pub fall_goes_on : (l : List ℕ) → FallList S.net R l → GoesOn (fall_step S.net) R l
  fall_goes_on l p = dual_goes_on (fall S) R l (goes_on (fallen S) (complement R) l quiet (up l p))

  pub fall_released : (l : List ℕ) → FallList S.net R l → Released S.net R (after R l)
  fall_released l p = dual_released S R (after R l) (rw (after_complement R l) at (General.supported_after (fallen S) (complement R) l quiet (up l p)))

  fell : (b a : Bool) (n : ℕ) → (a ≡ true → b ≡ true) → n + tally (not b) 0 ≡ tally (not a) 0 → n ≡ tally (b && not a) 0
  fell true true n f h = omega arith
  fell true false n f h = omega arith
  fell false true n f h = absurd (clash (f refl) refl)
  fell false false n f h = omega arith

  -- each net that has fallen stands once in the list, and no other net stands in it
  pub fall_switched : (l : List ℕ) → FallList S.net R l → Switched S.net (R ∖ after R l) l
  fall_switched l p =
      let n : ℕ = nets S.net in
      let h : length l + count n (complement R) ≡ count n (complement (after R l)) = rw (after_complement R l) at (length_after (fallen S) (complement R) l quiet (up l p)) in
      record {
        as_many = omega (arith, count_complement n R, count_complement n (after R l), count-∖ n (after R l) R (fall-⊑ l p));
        once = λ k. fell (R k) (after R l k) (times k l) (fall-⊑ l p k) (rw (after_complement R l) at (times_after (fallen S) (complement R) l quiet (up l p) k));
      }

  -- ---- with the nets of X kept

  pub kept_exists : (X : Row) → (r : Row) × SettledKept S.net X R r
  kept_exists X =
      let t : (r : Row) × SettledFrom (mask (fallen S) X) (complement R) r = General.settling (mask (fallen S) X) (complement R) quiet in
      (complement t.0, dual_kept S X R t.0 t.1)

  pub kept_reached : (X r : Row) → SettledKept S.net X R r → Reached (fall_step S.net) R r
  kept_reached X r h = dual_reached (fall S) R r (General.held_reached (fallen S) X (fallen_ranked S) (complement R) (complement r) quiet (kept_dual S X R r h))

  -- a released row that is as at rest in X lies above the row settled with X kept
  pub kept-⊑-released : (X r a : Row) → r ⊑ R → Released S.net R r → ((k : ℕ) → X k ≡ true → R k ≡ true → r k ≡ true)
      → SettledKept S.net X R a → a ⊑ r
  kept-⊑-released X r a o f x h =
      let s : SupportedFrom (fallen S) (complement R) (complement r) = released_dual S R r o f in
      ⊑-complement r a (General.supported-⊑-held (fallen S) X (fallen_ranked S) (complement R) (complement r) (complement a) s still (kept_dual S X R a h))
    where
      still : (k : ℕ) → X k ≡ true → not (R k) ≡ false → not (r k) ≡ false
      still k y z = ap not (x k y (not-false (R k) (λ e. clash (ap not e) z)))

  -- ---- ends

  -- with nothing kept all is low
  low_kept : SettledKept S.net low R low
  low_kept k = go (true? (R k))
    where
      down : k < nets S.net → fall_down S.net low k ≡ true
      down h = at (place S.net k)
        where
          at : Place S.net k → fall_down S.net low k ≡ true
          at (rail x) = by_net_rail S.net k true (may_fall S.net low k) x
          at (gate x) = by_net_gate S.net k true (may_fall S.net low k) x ∙ may_fall_low S k
          at (none x) = absurd (omega arith)

      go : (R k ≡ true) ⊎ (R k ≡ false) → false ≡ (R k && (false || not (fall_down S.net low k)))
      go (inl e) = rw (e, down (settled_inside S.net c R rest k e))
      go (inr e) = rw e

  pub fall_end_low : (l : List ℕ) → FallList S.net R l → FallEnd S.net R l → after R l ≡ low
  fall_end_low l p e = kept_one S low R (after R l) low end low_kept
    where
      end : SettledKept S.net low R (after R l)
      end k = end_cases (after R l k) (R k) (fall_down S.net (after R l) k) (fall_up S.net (after R l) k) (e k) (fall-⊑ l p k) (fall_released l p k)

  pub fall_end_switched : (l : List ℕ) → FallList S.net R l → FallEnd S.net R l → Switched S.net R l
  fall_end_switched l p e = rw all at (fall_switched l p)
    where
      all : R ∖ after R l ≡ R
      all = fun_ext (λ k. ap (λ (r : Row). R k && not (r k)) (fall_end_low l p e) ∙ and-true (R k))

  -- any two full falls, one from the other by exchanging neighbours
  pub fall_exchange : (l m : List ℕ) → FallList S.net R l → FallList S.net R m → FallEnd S.net R l → FallEnd S.net R m
      → Swapped (fall_step S.net) R m l
  fall_exchange l m p q d e = dual_exchanged (fall S) R (exchange (fallen S) (complement R) l m quiet (up l p) (up m q) (ended_dual (fall S) R l d) (ended_dual (fall S) R m e))

  -- any two full falls
  pub falls_alike : OneFromAnother (fall_step S.net) R
  falls_alike = one_from_another (fall_step S.net) R fall_exchange (λ l p k. at_most_once ((R ∖ after R l) k) (times k l) ((fall_switched l p).once k))
