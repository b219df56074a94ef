-- A stage is tight in a word exactly if its settled row reads the answer and every high net is acknowledged there: one look at each net's
-- gates stands for a settling with that net held low.
-- Assumes nothing.
use mathlib.Core.Path.{◌≡◌, sym, ap, ◌∙◌}
use mathlib.Core.Logic.{◌⊎◌, inl, inr, ◌≢◌}
use mathlib.Core.Bool.{Bool, true, false, not, ◌&&◌, ◌||◌}
use mathlib.Core.List.{List, [], ◌∷◌}
use Prim.Native.Nat.{ℕ, zero, suc, ◌+◌, ◌≤◌, ◌<◌}
use native.Mathlib.Omega.{arith}
use lib.Dec.{eqb, ltb}
use Rattle.runs.specs.Row.{Row, ◌∖◌, only}
use Rattle.runs.specs.Net.{rails, nets, IsGate, rise_up}
use Rattle.runs.specs.Theory.{◌⊑◌}
use Rattle.runs.specs.Settled.{Settled}
use Rattle.runs.specs.Pair.{DataOf, AllData, Reads}
use Rattle.runs.specs.Acyclic.{Acyclic, AllPins}
use Rattle.runs.specs.Tight.{Supported, Tight}
use Rattle.runs.specs.Acknowledged.{Acknowledged, output, next}
use Rattle.runs.proofs.Test.{clash, not-false, of_not, and_in, and_left, and_right, or_left, or_right, or_cases, eqb_same, eqb_eq, eqb_other, same?, le-ltb, ltb-false, find}
use Rattle.runs.proofs.Row.{∖-same}
use Rattle.runs.proofs.Net.{Place, rail, gate, none, place, by_net_rail, by_net_gate, AllPins-map}
use Rattle.runs.proofs.Pair.{data_one, data_of_data, below_data, reads_data}
use Rattle.runs.proofs.Rise.{settled_one, settled_rail, settled_gate, settled_inside, supported-⊑-settled}
use Rattle.runs.proofs.Tight.{tight_from}

-- a number above f at every place below n
pub bound : (f : ℕ → ℕ) (n : ℕ) → (t : ℕ) × ((k : ℕ) → k < n → f k < t)
bound f zero = (0, λ k h. absurd (omega arith))
bound f (suc n) = go (bound f n)
  where
    go : (t : ℕ) × ((k : ℕ) → k < n → f k < t) → (t : ℕ) × ((k : ℕ) → k < suc n → f k < t)
    go x = (x.0 + suc (f n), λ k h. at k h (same? k n))
      where
        at : (k : ℕ) → k < suc n → (k ≡ n) ⊎ (k ≢ n) → f k < x.0 + suc (f n)
        at k h (inl e) = rw e (omega arith)
        at k h (inr e) = omega (arith, x.1 k (omega arith))

-- a net is in a list, so that P holds of it, or no member is that net
pub among : (P : ℕ → Type 0) (k : ℕ) (l : List ℕ) → AllPins P l → (P k) ⊎ (AllPins (λ p. p ≢ k) l)
among P k [] h = inr tt
among P k (p ∷ ps) h = go (same? p k) (among P k ps h.1)
  where
    go : (p ≡ k) ⊎ (p ≢ k) → (P k) ⊎ (AllPins (λ p. p ≢ k) ps) → (P k) ⊎ ((p ≢ k) × AllPins (λ p. p ≢ k) ps)
    go (inl e) t = inl (rw e at h.0)
    go (inr e) (inl x) = inl x
    go (inr e) (inr x) = inr (e, x)

module _ (S : Acyclic) (c : Row) (answer : ℕ → Bool) where
  -- a gate whose set expression turns false as net k falls has k at a pin
  falls_behind : (R : Row) (k g : ℕ) → IsGate S.net g → S.net.fires R g ≡ true → S.net.fires (R ∖ only k) g ≡ false → S.rank k < S.rank g
  falls_behind R k g h u z = go (among (λ p. S.rank p < S.rank g) k (S.net.pins g) (S.rank_pins g h))
    where
      go : (S.rank k < S.rank g) ⊎ (AllPins (λ p. p ≢ k) (S.net.pins g)) → S.rank k < S.rank g
      go (inl x) = x
      go (inr x) = absurd (clash (sym (S.fires_local R (R ∖ only k) g (AllPins-map (λ p. p ≢ k) (λ p. R p ≡ (R ∖ only k) p) (λ p n. ∖-same R (only k) p (eqb_other p k n)) (S.net.pins g) x)) ∙ u) z)

  module _ (R : Row) (rest : Settled S.net c R) (reads : Reads S.net R answer) (ack : (k : ℕ) → R k ≡ true → Acknowledged S.net R k) where
    -- from a net to the gate that waits for it, up to an output: the ranks rise, so it comes to an end
    risen : (r : Row) → Supported S.net c r → AllData S.net r → (t : ℕ) → ((k : ℕ) → k < nets S.net → S.rank k < t) → (n k : ℕ)
        → t ≤ S.rank k + n → R k ≡ true → r k ≡ true
    risen r s d t top zero k h u = absurd (omega (arith, top k (settled_inside S.net c R rest k u)))
    risen r s d t top (suc n) k h u = go (λ g. risen r s d t top n g) (ack k u)
      where
        under : r ⊑ R
        under = supported-⊑-settled S c r R s rest

        go : ((g : ℕ) → t ≤ S.rank g + n → R g ≡ true → r g ≡ true) → Acknowledged S.net R k → r k ≡ true
        go ih (output j b x e) =
            let same : b ≡ answer j = data_one R (S.net.rail j) (data_of_data R (S.net.rail j) (answer j) (reads j x)) b (answer j) (ap R e ∙ u) (reads j x).0 in
            let shown : DataOf r (S.net.rail j) (answer j) = below_data r R (S.net.rail j) (answer j) under (reads j x) (d j x) in
            sym (ap r e) ∙ ap (λ (b : Bool). r (S.net.rail j b)) same ∙ shown.0
        go ih (next g x v z) =
            let above : S.rank k < S.rank g = falls_behind R k g x (sym (settled_gate S.net c R rest g x) ∙ v) z in
            let high : S.net.fires r g ≡ true = sym (by_net_gate S.net g (c g) (S.net.fires r g) x) ∙ s g (ih g (omega arith) v) in
            not-false (r k) (λ e. clash (S.fires_mono r (R ∖ only k) (without e) g high) z)
          where
            without : r k ≡ false → r ⊑ (R ∖ only k)
            without e p y = and_in (R p) (not (only k p)) (under p y) (ap not (eqb_other p k (λ q. clash y (rw q e))))

    pub acknowledged_tight : Tight S.net c answer
    acknowledged_tight =
        let t : (t : ℕ) × ((k : ℕ) → k < nets S.net → S.rank k < t) = bound S.rank (nets S.net) in
        record {
          right = λ a h. rw (settled_one S c a R h rest) reads;
          tight = tight_from S c answer (λ a h r s d k u. risen r s d t.0 t.1 t.0 k (omega arith) (rw (settled_one S c a R h rest) at u));
        }

  pub tight_acknowledged : Tight S.net c answer → (R : Row) → Settled S.net c R → (k : ℕ) → R k ≡ true → Acknowledged S.net R k
  tight_acknowledged t R rest k u = go (find at_output S.net.outputs) (find at_gate (nets S.net))
    where
      at_output : ℕ → Bool
      at_output j = eqb (S.net.rail j false) k || eqb (S.net.rail j true) k

      at_gate : ℕ → Bool
      at_gate g = not (ltb g (rails S.net)) && (R g && not (S.net.fires (R ∖ only k) g))

      -- if nothing waits for k, the row without k is supported, with all outputs DATA
      unseen : ((j : ℕ) → j < S.net.outputs → at_output j ≡ false) → ((g : ℕ) → g < nets S.net → at_gate g ≡ false) → ⊥
      unseen f h = clash u (sym (ap (λ (r : Row). r k) (t.tight R rest (R ∖ only k) supported all_data_holds)) ∙ low_k)
        where
          low_k : (R ∖ only k) k ≡ false
          low_k = rw (eqb_same k, u)

          kept : (j : ℕ) → j < S.net.outputs → (b : Bool) → (eqb (S.net.rail j b) k ≡ true → at_output j ≡ true)
              → R (S.net.rail j b) ≡ (R ∖ only k) (S.net.rail j b)
          kept j d b g = ∖-same R (only k) (S.net.rail j b) (eqb_other (S.net.rail j b) k (λ e. clash (g (rw e (eqb_same k))) (f j d)))

          all_data_holds : AllData S.net (R ∖ only k)
          all_data_holds j d =
              let x : R (S.net.rail j false) ≡ (R ∖ only k) (S.net.rail j false) = kept j d false (or_left (eqb (S.net.rail j false) k) (eqb (S.net.rail j true) k)) in
              let y : R (S.net.rail j true) ≡ (R ∖ only k) (S.net.rail j true) = kept j d true (or_right (eqb (S.net.rail j false) k) (eqb (S.net.rail j true) k)) in
              sym x ∙ reads_data S.net R answer (t.right R rest) j d ∙ ap not y

          supported : Supported S.net c (R ∖ only k)
          supported i e = at (place S.net i)
            where
              was : R i ≡ true
              was = and_left (R i) (not (only k i)) e

              at : Place S.net i → rise_up S.net c (R ∖ only k) i ≡ true
              at (rail x) = by_net_rail S.net i (c i) (S.net.fires (R ∖ only k) i) x ∙ sym (settled_rail S.net c R rest i x) ∙ was
              at (gate x) = by_net_gate S.net i (c i) (S.net.fires (R ∖ only k) i) x ∙ not-false (S.net.fires (R ∖ only k) i) (λ z. clash (found z) (h i x.1))
                where
                  found : S.net.fires (R ∖ only k) i ≡ false → at_gate i ≡ true
                  found z = rw (le-ltb i (rails S.net) x.0, was, z)
              at (none x) = absurd (omega (arith, settled_inside S.net c R rest i was))

      found-gate : (g : ℕ) → g < nets S.net → at_gate g ≡ true → Acknowledged S.net R k
      found-gate g x e =
          let a : ltb g (rails S.net) ≡ false = of_not (ltb g (rails S.net)) (and_left (not (ltb g (rails S.net))) (R g && not (S.net.fires (R ∖ only k) g)) e) in
          let b : (R g && not (S.net.fires (R ∖ only k) g)) ≡ true = and_right (not (ltb g (rails S.net))) (R g && not (S.net.fires (R ∖ only k) g)) e in
          let z : S.net.fires (R ∖ only k) g ≡ false = of_not (S.net.fires (R ∖ only k) g) (and_right (R g) (not (S.net.fires (R ∖ only k) g)) b) in
          next g (ltb-false g (rails S.net) a, x) (and_left (R g) (not (S.net.fires (R ∖ only k) g)) b) z

      found-output : (j : ℕ) → j < S.net.outputs → (eqb (S.net.rail j false) k ≡ true) ⊎ (eqb (S.net.rail j true) k ≡ true)
          → Acknowledged S.net R k
      found-output j x (inl e) = output j false x (eqb_eq (S.net.rail j false) k e)
      found-output j x (inr e) = output j true x (eqb_eq (S.net.rail j true) k e)

      go : ((j : ℕ) × (j < S.net.outputs) × (at_output j ≡ true)) ⊎ ((j : ℕ) → j < S.net.outputs → at_output j ≡ false)
          → ((g : ℕ) × (g < nets S.net) × (at_gate g ≡ true)) ⊎ ((g : ℕ) → g < nets S.net → at_gate g ≡ false) → Acknowledged S.net R k
      go (inl x) y = found-output x.0 x.1 (or_cases (eqb (S.net.rail x.0 false) k) (eqb (S.net.rail x.0 true) k) x.2)
      go (inr f) (inl y) = found-gate y.0 y.1 y.2
      go (inr f) (inr h) = absurd (unseen f h)
