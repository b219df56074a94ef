-- A net whose nets are the rails of a reference's signals: it is tight in a word if every signal is an output or read by a later one, and in every
-- rise a rail waits for the operands of its signal.
-- Assumes nothing.
use mathlib.Core.Path.{◌≡◌, refl, sym, ap, ap₂, ◌∙◌, subst}
use mathlib.Core.Logic.{◌⊎◌, inl, inr}
use mathlib.Core.Bool.{Bool, true, false, not, not-not}
use mathlib.Core.List.{List, [], ◌∷◌}
use Prim.Native.Nat.{ℕ, zero, suc, ◌+◌, ◌≤◌, ◌<◌}
use native.Mathlib.Omega.{arith}
use Rattle.runs.specs.Row.{Row}
use Rattle.runs.specs.Net.{Net, rails, nets, IsGate}
use Rattle.runs.specs.Theory.{◌⊑◌}
use Rattle.runs.specs.Settled.{Settled}
use Rattle.runs.specs.Pair.{DataOf, Data, Both, AllData, Reads}
use Rattle.runs.specs.Acyclic.{Acyclic}
use Rattle.runs.specs.Tight.{Supported, Tight}
use Rattle.runs.proofs.Test.{clash, not-true}
use Rattle.runs.proofs.Row.{⊑-low}
use Rattle.runs.proofs.Net.{by_net_gate}
use Rattle.runs.proofs.Pair.{both_not_data, data_of_data, data_one, below_data, below_not_both}
use Rattle.runs.proofs.Rise.{settled_rail, settled_gate, settled_inside, supported-⊑-settled}
use Rattle.runs.proofs.Tight.{tight_from}
use Rattle.verdict.specs.Graph.{In}

-- In row r rails of two pairs are high that give x.
pub record Cause (f : Bool → Bool → Bool) (a b : Bool → ℕ) (r : Row) (x : Bool) : Type 0 where
  pub p : Bool
  pub q : Bool
  pub first : r (a p) ≡ true
  pub second : r (b q) ≡ true
  pub gives : f p q ≡ x

-- The rails of a signal are two gates, for the values f of its operands, whose rails are a and b.
pub record TwoGates (N : Net) (rail : Bool → ℕ) (f : Bool → Bool → Bool) (a b : Bool → ℕ) : Type 0 where
  pub gate : (x : Bool) → IsGate N (rail x)
  pub set : (r : Row) (p q : Bool) → r (a p) ≡ true → r (b q) ≡ true → N.fires r (rail (f p q)) ≡ true
  pub cause : (r : Row) (x : Bool) → ¬ (Both r a) → ¬ (Both r b) → N.fires r (rail x) ≡ true → Cause f a b r x

-- What drives signal s: the rails of an input, those of its operand swapped, or two gates.
pub data Driven (N : Net) (c : Row) (rail : ℕ → Bool → ℕ) (value : ℕ → Bool) (operands : List ℕ) (s : ℕ) : Type 0 where
  input : operands ≡ [] → ((x : Bool) → rail s x < rails N) → DataOf c (rail s) (value s) → Driven N c rail value operands s
  inverse : (a : ℕ) → operands ≡ a ∷ [] → a < s → ((x : Bool) → rail s x ≡ rail a (not x)) → value s ≡ not (value a) → Driven N c rail value operands s
  operation : (f : Bool → Bool → Bool) (a b : ℕ) → operands ≡ a ∷ b ∷ [] → a < s → b < s → TwoGates N (rail s) f (rail a) (rail b)
      → value s ≡ f (value a) (value b) → Driven N c rail value operands s

-- All signals, in a word whose rails are c and in which each has a value.
pub record Signals (N : Net) (c : Row) : Type 0 where
  pub count : ℕ
  pub rail : ℕ → Bool → ℕ
  pub value : ℕ → Bool
  pub operands : ℕ → List ℕ
  pub driven : (s : ℕ) → s < count → Driven N c rail value (operands s) s
  pub out : ℕ → ℕ
  pub out_in : (j : ℕ) → j < N.outputs → out j < count
  pub output : (j : ℕ) → j < N.outputs → (x : Bool) → N.rail j x ≡ rail (out j) x
  pub covered : (k : ℕ) → k < nets N → (s : ℕ) × (s < count) × ((x : Bool) × (rail s x ≡ k))

module _ (S : Acyclic) (c : Row) (W : Signals S.net c) (R : Row) (rest : Settled S.net c R) where
  abbrev Says : Row → ℕ → Type 0
  Says r s = DataOf r (W.rail s) (W.value s)

  only : (a : ℕ) (p : Bool) → Says R a → R (W.rail a p) ≡ true → p ≡ W.value a
  only a p d e = data_one R (W.rail a) (data_of_data R (W.rail a) (W.value a) d) p (W.value a) e d.0

  not_both : (a : ℕ) → Says R a → ¬ (Both R (W.rail a))
  not_both a d h = both_not_data R (W.rail a) h (data_of_data R (W.rail a) (W.value a) d)

  not_self : (x : Bool) → not x ≡ x → ⊥
  not_self true e = clash refl (sym e)
  not_self false e = clash refl e

  says_at : (s : ℕ) → ((a : ℕ) → a < s → Says R a) → Driven S.net c W.rail W.value (W.operands s) s → Says R s
  says_at s ih (input o inside d) = (
    settled_rail S.net c R rest (W.rail s (W.value s)) (inside (W.value s)) ∙ d.0,
    settled_rail S.net c R rest (W.rail s (not (W.value s))) (inside (not (W.value s))) ∙ d.1,
  )
  says_at s ih (inverse a o before is e) =
      let d = ih a before in (
        ap R (is (W.value s) ∙ ap (λ x. W.rail a (not x)) e ∙ ap (W.rail a) (not-not (W.value a))) ∙ d.0,
        ap R (is (not (W.value s)) ∙ ap (W.rail a) (not-not (W.value s)) ∙ ap (W.rail a) e) ∙ d.1,
      )
  says_at s ih (operation f a b o before-a before-b g e) =
      let da = ih a before-a in
      let db = ih b before-b in
      let up : (x : Bool) → R (W.rail s x) ≡ S.net.fires R (W.rail s x) = λ x. settled_gate S.net c R rest (W.rail s x) (g.gate x) in (
        up (W.value s) ∙ ap (λ x. S.net.fires R (W.rail s x)) e ∙ g.set R (W.value a) (W.value b) da.0 db.0,
        not-true (R (W.rail s (not (W.value s)))) (λ h.
            let x = g.cause R (not (W.value s)) (not_both a da) (not_both b db) (sym (up (not (W.value s))) ∙ h) in
            not_self (W.value s) (sym x.gives ∙ ap₂ f (only a x.p da x.first) (only b x.q db x.second) ∙ sym e)),
      )

  says_upto : (n s : ℕ) → s < n → s < W.count → Says R s
  says_upto zero s h l = absurd (omega arith)
  says_upto (suc n) s h l = says_at s (λ a d. says_upto n a (omega arith) (omega arith)) (W.driven s l)

  -- at rest every signal's pair is its value
  says : (s : ℕ) → s < W.count → Says R s
  says s l = says_upto (suc s) s (omega arith) l

  shows : Reads S.net R (λ j. W.value (W.out j))
  shows j h =
      let d = says (W.out j) (W.out_in j h) in
      (ap R (W.output j h (W.value (W.out j))) ∙ d.0, ap R (W.output j h (not (W.value (W.out j)))) ∙ d.1)

  module _ (r : Row) (supported : Supported S.net c r) where
    under : r ⊑ R
    under = supported-⊑-settled S c r R supported rest

    -- a signal with a high rail is DATA
    one_data : (a : ℕ) → a < W.count → (p : Bool) → r (W.rail a p) ≡ true → Data r (W.rail a)
    one_data a l p e =
        let v = only a p (says a l) (under (W.rail a p) e) in
        data_of_data r (W.rail a) (W.value a) (subst (λ (x : Bool). r (W.rail a x) ≡ true) v e, ⊑-low r R under (W.rail a (not (W.value a))) (says a l).1)

    -- where a gate of an operation is set, both operands are DATA
    pub gates_wait : (s : ℕ) (f : Bool → Bool → Bool) (a b : ℕ) → a < W.count → b < W.count → TwoGates S.net (W.rail s) f (W.rail a) (W.rail b)
        → (x : Bool) → S.net.fires r (W.rail s x) ≡ true → Data r (W.rail a) × Data r (W.rail b)
    gates_wait s f a b la lb g x e =
        let one : (a : ℕ) → a < W.count → ¬ (Both r (W.rail a)) = λ a l. below_not_both r R (W.rail a) (W.value a) under (says a l) in
        let y = g.cause r x (one a la) (one b lb) e in
        (one_data a la y.p y.first, one_data b lb y.q y.second)

    -- where a rail of a signal is high, each of its operands is DATA
    pub operands_data : (s : ℕ) → s < W.count → (x : Bool) → r (W.rail s x) ≡ true → (a : ℕ) → In a (W.operands s) → Data r (W.rail a)
    operands_data s l x e a i = by (W.driven s l)
      where
        by : Driven S.net c W.rail W.value (W.operands s) s → Data r (W.rail a)
        by (input o inside d) = absurd (subst (In a) o i)
        by (inverse b o before is v) = go (subst (In a) o i)
          where
            go : In a (b ∷ []) → Data r (W.rail a)
            go (inl q) = subst (λ (z : ℕ). Data r (W.rail z)) (sym q) (one_data b (omega arith) (not x) (sym (ap r (is x)) ∙ e))
            go (inr q) = absurd q
        by (operation f b d o before-b before-d g v) =
            go (subst (In a) o i) (gates_wait s f b d (omega arith) (omega arith) g x (sym (by_net_gate S.net (W.rail s x) _ _ (g.gate x)) ∙ supported (W.rail s x) e))
          where
            go : In a (b ∷ d ∷ []) → Data r (W.rail b) × Data r (W.rail d) → Data r (W.rail a)
            go (inl q) y = subst (λ (z : ℕ). Data r (W.rail z)) (sym q) y.0
            go (inr (inl q)) y = subst (λ (z : ℕ). Data r (W.rail z)) (sym q) y.1
            go (inr (inr q)) y = absurd q

    -- signal s is an output, or read by a later one
    abbrev Led : ℕ → Type 0
    Led s = ((j : ℕ) × (j < S.net.outputs) × (W.out j ≡ s)) ⊎ ((z : ℕ) × (s < z) × (z < W.count) × In s (W.operands z))

    module _ (lead : (s : ℕ) → s < W.count → Led s) (d : AllData S.net r) where
      -- where all outputs are DATA, so is every signal, the last ones first
      led : (more s : ℕ) → s < W.count → W.count ≤ s + more → DataOf r (W.rail s) (W.value s)
      led zero s l m = absurd (omega arith)
      led (suc more) s l m = below_data r R (W.rail s) (W.value s) under (says s l) (go (lead s l) (led more))
        where
          go : Led s → ((z : ℕ) → z < W.count → W.count ≤ z + more → DataOf r (W.rail z) (W.value z)) → Data r (W.rail s)
          go (inl (j, h, e)) later =
              subst (λ (z : ℕ). Data r (W.rail z)) e (sym (ap r (W.output j h false)) ∙ d j h ∙ ap (λ (k : ℕ). not (r k)) (W.output j h true))
          go (inr (z, b, h, i)) later = operands_data z h (W.value z) (later z h (omega arith)).0 s i

      lacks_none : R ⊑ r
      lacks_none k e =
          let at = W.covered k (settled_inside S.net c R rest k e) in
          let s = at.0 in
          let v = only s at.2.0 (says s at.1) (ap R at.2.1 ∙ e) in
          sym (ap r at.2.1) ∙ ap (λ (b : Bool). r (W.rail s b)) v ∙ (led W.count s at.1 (omega arith)).0

-- every signal leads to an output: the net is tight
pub signals_tight : (S : Acyclic) (c : Row) (W : Signals S.net c)
    → ((s : ℕ) → s < W.count → ((j : ℕ) × (j < S.net.outputs) × (W.out j ≡ s)) ⊎ ((z : ℕ) × (s < z) × (z < W.count) × In s (W.operands z)))
    → Tight S.net c (λ j. W.value (W.out j))
signals_tight S c W lead = record {
  right = shows S c W;
  tight = tight_from S c (λ j. W.value (W.out j)) (λ R rest r supported d. lacks_none S c W R rest r supported lead d);
}
