-- The rise and the fall of a stage as systems, and the notions of specs/ as theirs.
-- Assumes nothing.
use mathlib.Core.Path.{◌≡◌, refl, sym, ap, ◌∙◌, subst}
use mathlib.Core.Logic.{◌⊎◌, inl, inr}
use mathlib.Core.Bool.{Bool, true, false, not, ◌&&◌, ◌||◌, not-not}
use Prim.Native.Nat.{ℕ, ◌<◌}
use Rattle.runs.specs.Row.{Row, Rule, ◌∖◌, low}
use Rattle.runs.specs.Net.{Net, nets, IsGate, may_fall, by_net, rise_up, fall_up, fall_down, rails_of_inputs}
use Rattle.runs.specs.Theory.{◌⊑◌}
use Rattle.runs.specs.Settled.{Settled, SettledHeld, SettledKept}
use Rattle.runs.specs.Acyclic.{Acyclic, AllPins}
use Rattle.runs.specs.Tight.{Released}
use Rattle.runs.proofs.Test.{clash, true?, not-true, of_not}
use Rattle.runs.proofs.System.{System, Quiet, SupportedFrom, SettledFrom, Ranked, mask, complement, dual}
use Rattle.runs.proofs.Dual.{complement_complement}
use Rattle.runs.proofs.Net.{by_net_both, by_net_mono, by_net_inside, AllPins-map, fires_may_fall, may_fall_anti, may_fall_local, rise_up-∖}

-- the gate rule, with rails that rise where c says so and fall where d says so
abbrev pub moves : (S : Acyclic) (c d : Row) → ((k : ℕ) → c k ≡ true → d k ≡ false) → System
moves S c d n = record {
  size = nets S.net;
  up = λ r k. by_net S.net k (c k) (S.net.fires r k);
  down = λ r k. by_net S.net k (d k) (may_fall S.net r k);
  up_inside = λ r k. by_net_inside S.net k (c k) (S.net.fires r k);
  down_inside = λ r k. by_net_inside S.net k (d k) (may_fall S.net r k);
  up_mono = λ r s h k. by_net_mono S.net k (c k) (S.net.fires r k) (c k) (S.net.fires s k) (λ e. e) (S.fires_mono r s h k);
  down_anti = λ r s h k. by_net_mono S.net k (d k) (may_fall S.net s k) (d k) (may_fall S.net r k) (λ e. e) (may_fall_anti S r s h k);
  apart = λ r k. by_net_both (λ a b. a ≡ true → b ≡ false) S.net k (c k) (S.net.fires r k) (d k) (may_fall S.net r k)
      (λ x. n k) (λ x. fires_may_fall S r k) (λ x e. refl);
}

abbrev pub rise : Acyclic → Row → System
rise S c = moves S c low (λ k e. refl)

abbrev pub fall : Acyclic → System
fall S = moves S low (λ k. true) (λ k e. absurd (clash e refl))

-- the fall as a rise: high is what has fallen
abbrev pub fallen : Acyclic → System
fallen S = dual (fall S)

gate-local : (S : Acyclic) (a : Row) (b : Rule) → ((r s : Row) (g : ℕ) → AllPins (λ p. r p ≡ s p) (S.net.pins g) → b r g ≡ b s g)
    → (r s : Row) (k : ℕ) → ((i : ℕ) → S.rank i < S.rank k → r i ≡ s i) → by_net S.net k (a k) (b r k) ≡ by_net S.net k (a k) (b s k)
gate-local S a b f r s k h = by_net_both (λ x y. x ≡ y) S.net k (a k) (b r k) (a k) (b s k) (λ x. refl) (λ g. f r s k (same g)) (λ x. refl)
  where
    same : IsGate S.net k → AllPins (λ p. r p ≡ s p) (S.net.pins k)
    same g = AllPins-map (λ p. S.rank p < S.rank k) (λ p. r p ≡ s p) h (S.net.pins k) (S.rank_pins k g)

pub rise_ranked : (S : Acyclic) (c : Row) → Ranked (rise S c)
rise_ranked S c = record { rank = S.rank; local = gate-local S c S.net.fires S.fires_local }

pub fallen_ranked : (S : Acyclic) → Ranked (fallen S)
fallen_ranked S = record {
  rank = S.rank;
  local = λ r s k h. gate-local S (λ k. true) (may_fall S.net) (may_fall_local S) (complement r) (complement s) k (λ i d. ap not (h i d));
}

-- ---- the rise: `Settled N c` is `SettledFrom (rise S c) low`, `SettledHeld N c X` that of `mask (rise S c) X`

pub missing_held : (N : Net) (c : Row) (A : ℕ → Bool) (r : Row) → Settled N (c ∖ rails_of_inputs N A) r → SettledHeld N c (rails_of_inputs N A) r
missing_held N c A r h k = h k ∙ rise_up-∖ N c A r k

pub held_missing : (N : Net) (c : Row) (A : ℕ → Bool) (r : Row) → SettledHeld N c (rails_of_inputs N A) r → Settled N (c ∖ rails_of_inputs N A) r
held_missing N c A r h k = h k ∙ sym (rise_up-∖ N c A r k)

-- ---- the fall, upside down

kept_not : (r x d : Bool) → not (r && (x || not d)) ≡ (not r || d && not x)
kept_not true true true = refl
kept_not true true false = refl
kept_not true false true = refl
kept_not true false false = refl
kept_not false x d = refl

not_kept : (r x d : Bool) → not (not r || d && not x) ≡ (r && (x || not d))
not_kept r x d = ap not (sym (kept_not r x d)) ∙ not-not (r && (x || not d))

module _ (S : Acyclic) where
  pub kept_dual : (X R r : Row) → SettledKept S.net X R r → SettledFrom (mask (fallen S) X) (complement R) (complement r)
  kept_dual X R r h k = ap not (h k) ∙ kept_not (R k) (X k) (fall_down S.net r k)
      ∙ ap (λ (s : Row). not (R k) || fall_down S.net s k && not (X k)) (sym (complement_complement r))

  pub dual_kept : (X R r : Row) → SettledFrom (mask (fallen S) X) (complement R) r → SettledKept S.net X R (complement r)
  dual_kept X R r h k = ap not (h k) ∙ not_kept (R k) (X k) (fall_down S.net (complement r) k)

  pub released_dual : (R r : Row) → r ⊑ R → Released S.net R r → SupportedFrom (fallen S) (complement R) (complement r)
  released_dual R r o h k e = go (true? (R k))
    where
      go : (R k ≡ true) ⊎ (R k ≡ false) → (not (R k) || fall_down S.net (complement (complement r)) k) ≡ true
      go (inl a) = rw (a, complement_complement r) (h k a (of_not (r k) e))
      go (inr a) = rw a

  pub dual_released : (R r : Row) → SupportedFrom (fallen S) (complement R) (complement r) → Released S.net R r
  dual_released R r h k a e =
      let x : fall_down S.net (complement (complement r)) k ≡ true = subst (λ (b : Bool). (not b || fall_down S.net (complement (complement r)) k) ≡ true) a (h k (ap not e)) in
      subst (λ (s : Row). fall_down S.net s k ≡ true) (complement_complement r) x

  -- at a settled row no low net may rise
  pub settled_dual_quiet : (c R : Row) → Settled S.net c R → Quiet (fallen S) (complement R)
  settled_dual_quiet c R h k e = rw (complement_complement R) (not-true (fall_up S.net R k) (λ u. clash (h k ∙ up u) (of_not (R k) e)))
    where
      up : fall_up S.net R k ≡ true → rise_up S.net c R k ≡ true
      up = by_net_mono S.net k false (S.net.fires R k) (c k) (S.net.fires R k) (λ z. absurd (clash z refl)) (λ z. z)
