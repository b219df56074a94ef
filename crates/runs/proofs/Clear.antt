-- Checks 20 and 21 find nothing in a word exactly if the stage is clear there; and with hold everywhere a tight stage is clear.
-- Assumes nothing.
use mathlib.Core.Path.{◌≡◌, sym, ap, ◌∙◌, subst, fun_ext}
use mathlib.Core.Bool.{Bool, true, false, not}
use Prim.Native.Nat.{ℕ, ◌/◌, ◌<◌}
use native.Mathlib.Omega.{arith}
use Rattle.runs.specs.Row.{Row, ◌∖◌, low, only}
use Rattle.runs.specs.Net.{IsGate, input_rail, may_fall, rise_up, rails_of_inputs}
use Rattle.runs.specs.Theory.{◌⊑◌, AllHold}
use Rattle.runs.specs.Settled.{Settled, SettledKept}
use Rattle.runs.specs.Pair.{AllData, AllNull, InputsData}
use Rattle.runs.specs.Acyclic.{Acyclic, AllPins}
use Rattle.runs.specs.Checks.{Passes, FallPasses}
use Rattle.runs.specs.Tight.{Released, Tight, Clear}
use Rattle.runs.proofs.Test.{clash, not-true, of_not, and_left, and_right, eqb_same, eqb_eq}
use Rattle.runs.proofs.Row.{∖-same}
use Rattle.runs.proofs.Net.{Place, rail, gate, none, place, by_net_rail, by_net_gate, rails_of_inputs_in, hold_waits, AllPins-map}
use Rattle.runs.proofs.Pair.{data_high, input_one, reads_data, all_null_down}
use Rattle.runs.proofs.Rise.{settled_one, settled_rail, settled_gate, settled_data, settled_inside}
use Rattle.runs.proofs.Fall.{kept_one, kept-⊑, kept_released, kept_still, kept_exists, kept-⊑-released}
use Rattle.runs.proofs.Tight.{passes_tight}

module _ (S : Acyclic) (c : Row) where
  -- with a net kept high, not all outputs are NULL
  pub clear_kept : Clear S.net c → (R : Row) → Settled S.net c R → (X : Row) (k : ℕ) → X k ≡ true → R k ≡ true → (r : Row)
      → SettledKept S.net X R r → ¬ (AllNull S.net r)
  clear_kept t R rest X k x u r h n = clash (kept_still S X R r h k x ∙ u) (ap (λ (s : Row). s k) (t R rest r (kept-⊑ S X R r h) (kept_released S X R r h) n))

  module _ (word : InputsData S.net c) where
    module _ (ok : FallPasses S.net c) (R : Row) (rest : Settled S.net c R) (r : Row) (o : r ⊑ R) (f : Released S.net R r) (n : AllNull S.net r) where
      -- if X is in r as at rest, all outputs are NULL with X kept
      blocked : (X : Row) → ((a : Row) → SettledKept S.net X R a → ¬ (AllNull S.net a)) → ((k : ℕ) → X k ≡ true → R k ≡ true → r k ≡ true) → ⊥
      blocked X g x =
          let t : (a : Row) × SettledKept S.net X R a = kept_exists S c R rest X in
          g t.0 t.1 (all_null_down S.net t.0 r (kept-⊑-released S c R rest X r t.0 o f x t.1) n)

      keeps-none : (k : ℕ) → r k ≡ true → Place S.net k → ⊥
      keeps-none k e (rail h) = blocked (rails_of_inputs S.net (only (k / 2))) (ok.complete R rest (k / 2) (omega arith)) on
        where
          -- the other rail of the input is low at rest
          on : (m : ℕ) → rails_of_inputs S.net (only (k / 2)) m ≡ true → R m ≡ true → r m ≡ true
          on m x v = rw (input_one S.net R (settled_data S.net c R rest word) k m h x (o k e) v) e
      keeps-none k e (gate h) = blocked (only k) (ok.observable R rest k h (o k e)) (λ m x v. rw (eqb_eq m k x) e)
      keeps-none k e (none h) = omega (arith, settled_inside S.net c R rest k (o k e))

    pub fall_passes_clear : FallPasses S.net c → Clear S.net c
    fall_passes_clear ok R rest r o f n = fun_ext (λ k. not-true (r k) (λ e. keeps-none ok R rest r o f n k e (place S.net k)))

    -- with an input kept DATA, not all outputs are NULL
    pub clear_late : Clear S.net c → (R : Row) → Settled S.net c R → (A : ℕ → Bool) (i : ℕ) → i < S.net.inputs → A i ≡ true → (r : Row)
        → SettledKept S.net (rails_of_inputs S.net A) R r → ¬ (AllNull S.net r)
    clear_late t R rest A i h a r g =
        let b : (b : Bool) × (R (input_rail i b) ≡ true) = data_high R (input_rail i) (settled_data S.net c R rest word i h) in
        clear_kept t R rest (rails_of_inputs S.net A) (input_rail i b.0) (rails_of_inputs_in S.net A i b.0 h a) b.1 r g

    pub clear_fall_passes : Clear S.net c → FallPasses S.net c
    clear_fall_passes t = record {
      complete = λ R rest i h r. clear_late t R rest (only i) i h (eqb_same i) r;
      observable = λ R rest g h u r. clear_kept t R rest (only g) g (eqb_same g) u r;
    }

-- One settled row of each sort is enough: a stage has no other.
module _ (S : Acyclic) (c R : Row) (rest : Settled S.net c R) where
  pub fall_passes_at : ((i : ℕ) → i < S.net.inputs → (r : Row) × SettledKept S.net (rails_of_inputs S.net (only i)) R r × (¬ (AllNull S.net r)))
      → ((g : ℕ) → IsGate S.net g → R g ≡ true → (r : Row) × SettledKept S.net (only g) R r × (¬ (AllNull S.net r)))
      → FallPasses S.net c
  fall_passes_at f g = record {
    complete = λ b rest' i h r a. late (rails_of_inputs S.net (only i)) b (settled_one S c b R rest' rest) r a (f i h);
    observable = λ b rest' n h u r a. late (only n) b (settled_one S c b R rest' rest) r a (g n h (subst (λ (r : Row). r n ≡ true) (settled_one S c b R rest' rest) u));
  }
    where
      late : (X b : Row) → b ≡ R → (r : Row) → SettledKept S.net X b r → (r : Row) × SettledKept S.net X R r × (¬ (AllNull S.net r))
          → ¬ (AllNull S.net r)
      late X b e r a x = subst (λ (r : Row). ¬ (AllNull S.net r)) (kept_one S X R x.0 r x.1 (subst (λ (R : Row). SettledKept S.net X R r) e a)) x.2

-- ---- hold

module _ (S : Acyclic) (c : Row) (answer : ℕ → Bool) (hold : AllHold S.net) (t : Tight S.net c answer) (R : Row) (rest : Settled S.net c R) (r : Row) (o : r ⊑ R) (f : Released S.net R r) (n : AllNull S.net r) where
  -- what has fallen was a supported row: a gate with hold fell after all its pins had
  fallen-supported : (k : ℕ) → (R ∖ r) k ≡ true → rise_up S.net c (R ∖ r) k ≡ true
  fallen-supported k e = go (place S.net k)
    where
      was : R k ≡ true
      was = and_left (R k) (not (r k)) e

      go : Place S.net k → rise_up S.net c (R ∖ r) k ≡ true
      go (rail h) = by_net_rail S.net k (c k) (S.net.fires (R ∖ r) k) h ∙ sym (settled_rail S.net c R rest k h) ∙ was
      go (gate h) =
          let may : may_fall S.net r k ≡ true = sym (by_net_gate S.net k true (may_fall S.net r k) h) ∙ f k was (of_not (r k) (and_right (R k) (not (r k)) e)) in
          let same : AllPins (λ p. R p ≡ (R ∖ r) p) (S.net.pins k) = AllPins-map (λ p. r p ≡ false) (λ p. R p ≡ (R ∖ r) p) (∖-same R r) (S.net.pins k) (hold_waits S.net r k (hold k h) may) in
          by_net_gate S.net k (c k) (S.net.fires (R ∖ r) k) h ∙ sym (S.fires_local R (R ∖ r) k same) ∙ sym (settled_gate S.net c R rest k h) ∙ was
      go (none h) = absurd (omega (arith, settled_inside S.net c R rest k was))

  -- with all outputs DATA
  fallen-data : AllData S.net (R ∖ r)
  fallen-data j d = sym (∖-same R r (S.net.rail j false) (n j d).0) ∙ reads_data S.net R answer (t.right R rest) j d ∙ ap not (∖-same R r (S.net.rail j true) (n j d).1)

  all_fallen : r ≡ low
  all_fallen = fun_ext (λ k. not-true (r k) (λ e. clash (ap (λ (s : Row). s k) (t.tight R rest (R ∖ r) fallen-supported fallen-data) ∙ o k e) (kept k e)))
    where
      kept : (k : ℕ) → r k ≡ true → (R ∖ r) k ≡ false
      kept k e = rw (e, o k e)

pub tight_clear : (S : Acyclic) (c : Row) (answer : ℕ → Bool) → AllHold S.net → Tight S.net c answer → Clear S.net c
tight_clear S c answer hold t R rest r o f n = all_fallen S c answer hold t R rest r o f n

-- a stage with hold everywhere never meets 20 and 21
pub hold_fall_passes : (S : Acyclic) (c : Row) (answer : ℕ → Bool) → InputsData S.net c → AllHold S.net → Passes S.net c answer
    → FallPasses S.net c
hold_fall_passes S c answer word hold ok = clear_fall_passes S c word (tight_clear S c answer hold (passes_tight S c answer word ok))
