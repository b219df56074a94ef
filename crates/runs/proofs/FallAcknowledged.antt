-- A stage is clear in a word where every net that is high at its rest is acknowledged on the way back: one look at each net's gates stands for a
-- fall with that net kept high.
-- Assumes nothing.
use mathlib.Core.Path.{◌≡◌, sym, ap, ◌∙◌, fun_ext}
use mathlib.Core.Logic.{◌⊎◌, inl, inr, ◌≢◌}
use mathlib.Core.Bool.{true, false}
use Prim.Native.Nat.{ℕ, zero, suc, ◌+◌, ◌≤◌, ◌<◌}
use native.Mathlib.Omega.{arith}
use Rattle.runs.specs.Row.{Row, low, only}
use Rattle.runs.specs.Net.{nets, IsGate, may_fall}
use Rattle.runs.specs.Theory.{◌⊑◌}
use Rattle.runs.specs.Settled.{Settled}
use Rattle.runs.specs.Pair.{AllNull}
use Rattle.runs.specs.Acyclic.{Acyclic, AllPins}
use Rattle.runs.specs.Tight.{Released, Clear}
use Rattle.runs.specs.Acknowledged.{FallAcknowledged, fall_output, fall_next}
use Rattle.runs.proofs.Test.{clash, not-true, not-false, eqb_eq, eqb_other}
use Rattle.runs.proofs.Net.{by_net_gate, AllPins-map, may_fall_local, may_fall_low, may_fall_anti}
use Rattle.runs.proofs.Rise.{settled_one, settled_inside}
use Rattle.runs.proofs.Acknowledged.{bound, among}

module _ (S : Acyclic) where
  -- a gate that may not fall while net k alone is high has k at a pin
  waits_behind : (k g : ℕ) → IsGate S.net g → may_fall S.net (only k) g ≡ false → S.rank k < S.rank g
  waits_behind k g h z = go (among (λ p. S.rank p < S.rank g) k (S.net.pins g) (S.rank_pins g h))
    where
      go : (S.rank k < S.rank g) ⊎ (AllPins (λ p. p ≢ k) (S.net.pins g)) → S.rank k < S.rank g
      go (inl x) = x
      go (inr x) =
          absurd (clash (may_fall_low S g) (may_fall_local S low (only k) g (AllPins-map (λ p. p ≢ k) (λ p. low p ≡ only k p) (λ p n. sym (eqb_other p k n)) (S.net.pins g) x) ∙ z))

  module _ (c R : Row) (rest : Settled S.net c R) (ack : (k : ℕ) → R k ≡ true → FallAcknowledged S.net R k) where
    -- from a net that is still high to the gate that waits for it, up to an output: the ranks rise, so it comes to an end
    still : (r : Row) → r ⊑ R → Released S.net R r → AllNull S.net r → (t : ℕ) → ((k : ℕ) → k < nets S.net → S.rank k < t) → (n k : ℕ)
        → t ≤ S.rank k + n → r k ≡ true → ⊥
    still r o f d t top zero k h u = omega (arith, top k (settled_inside S.net c R rest k (o k u)))
    still r o f d t top (suc n) k h u = go (λ g. still r o f d t top n g) (ack k (o k u))
      where
        go : ((g : ℕ) → t ≤ S.rank g + n → r g ≡ true → ⊥) → FallAcknowledged S.net R k → ⊥
        go ih (fall_output j true x e) = clash u (sym (ap r e) ∙ (d j x).1)
        go ih (fall_output j false x e) = clash u (sym (ap r e) ∙ (d j x).0)
        go ih (fall_next g x v z) =
            let above : S.rank k < S.rank g = waits_behind k g x z in
            ih g (omega arith) (not-false (r g) (λ e. clash (may_fall_anti S (only k) r under g (sym (by_net_gate S.net g true (may_fall S.net r g) x) ∙ f g v e)) z))
          where
            under : only k ⊑ r
            under p y = ap r (eqb_eq p k y) ∙ u

    pub fall_acknowledged_clear : Clear S.net c
    fall_acknowledged_clear a h r o f d =
        let t : (t : ℕ) × ((k : ℕ) → k < nets S.net → S.rank k < t) = bound S.rank (nets S.net) in
        let e : a ≡ R = settled_one S c a R h rest in
        fun_ext (λ k. not-true (r k) (still r (rw e at o) (rw e at f) d t.0 t.1 t.0 k (omega arith)))
