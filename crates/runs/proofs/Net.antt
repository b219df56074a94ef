-- Laws of a net: rails and gates by number, words' rails, and the gate rule.
-- Assumes nothing.
use mathlib.Core.Path.{◌≡◌, refl, sym, ap, ap₂, subst, fun_ext}
use mathlib.Core.Logic.{◌⊎◌, inl, inr, ◌≢◌}
use mathlib.Core.Bool.{Bool, true, false, not, cond, ◌&&◌, and-true}
use mathlib.Core.List.{List, [], ◌∷◌}
use Prim.Native.Nat.{ℕ, ◌+◌, ◌*◌, ◌/◌, ◌%◌, ◌≤◌, ◌<◌}
use native.Mathlib.Omega.{arith}
use lib.Dec.{ltb}
use Rattle.runs.specs.Row.{Row, ◌∖◌, low}
use Rattle.runs.specs.Net.{Net, rails, nets, IsGate, input_rail, all_low, may_fall, by_net, rise_up, rails_of_inputs}
use Rattle.runs.specs.Theory.{◌⊑◌, word_rails}
use Rattle.runs.specs.Acyclic.{Acyclic, AllPins}
use Rattle.runs.proofs.Test.{clash, true?, not-true, of_not, and_in, and_left, and_right, ltb-true, ltb-false, lt-ltb, le-ltb, same?}

-- ---- a net is a rail, a gate's, or none

pub data Place (N : Net) (k : ℕ) : Type 0 where
  rail : k < rails N → Place N k
  gate : IsGate N k → Place N k
  none : nets N ≤ k → Place N k

pub place : (N : Net) (k : ℕ) → Place N k
place N k = go (true? (ltb k (rails N))) (true? (ltb k (nets N)))
  where
    go : (ltb k (rails N) ≡ true) ⊎ (ltb k (rails N) ≡ false) → (ltb k (nets N) ≡ true) ⊎ (ltb k (nets N) ≡ false) → Place N k
    go (inl a) b = rail (ltb-true k (rails N) a)
    go (inr a) (inl b) = gate (ltb-false k (rails N) a, ltb-true k (nets N) b)
    go (inr a) (inr b) = none (ltb-false k (nets N) b)

pub by_net_rail : (N : Net) (k : ℕ) (a b : Bool) → k < rails N → by_net N k a b ≡ a
by_net_rail N k a b h = rw (lt-ltb k (rails N) h)

pub by_net_gate : (N : Net) (k : ℕ) (a b : Bool) → IsGate N k → by_net N k a b ≡ b
by_net_gate N k a b h = rw (le-ltb k (rails N) h.0, lt-ltb k (nets N) h.1)

pub by_net_none : (N : Net) (k : ℕ) (a b : Bool) → nets N ≤ k → by_net N k a b ≡ false
by_net_none N k a b h = rw (le-ltb k (rails N) (omega arith), le-ltb k (nets N) h)

-- only a net that exists may switch
pub by_net_inside : (N : Net) (k : ℕ) (a b : Bool) → by_net N k a b ≡ true → k < nets N
by_net_inside N k a b e = go (place N k)
  where
    go : Place N k → k < nets N
    go (rail h) = omega arith
    go (gate h) = h.1
    go (none h) = absurd (clash e (by_net_none N k a b h))

-- two answers for one net, compared for rails and for gates
pub by_net_both : (P : Bool → Bool → Type 0) (N : Net) (k : ℕ) (a b a' b' : Bool) → (k < rails N → P a a') → (IsGate N k → P b b')
    → (nets N ≤ k → P false false) → P (by_net N k a b) (by_net N k a' b')
by_net_both P N k a b a' b' f g h = go (place N k)
  where
    go : Place N k → P (by_net N k a b) (by_net N k a' b')
    go (rail x) = rw (by_net_rail N k a b x, by_net_rail N k a' b' x) (f x)
    go (gate x) = rw (by_net_gate N k a b x, by_net_gate N k a' b' x) (g x)
    go (none x) = rw (by_net_none N k a b x, by_net_none N k a' b' x) (h x)

pub by_net_mono : (N : Net) (k : ℕ) (a b a' b' : Bool) → (a ≡ true → a' ≡ true) → (b ≡ true → b' ≡ true) → by_net N k a b ≡ true
    → by_net N k a' b' ≡ true
by_net_mono N k a b a' b' f g = by_net_both (λ x y. x ≡ true → y ≡ true) N k a b a' b' (λ h. f) (λ h. g) (λ h e. e)

-- ---- inputs and their rails

-- every rail is an input's
pub rail_of_input : (k : ℕ) → (b : Bool) × (k ≡ input_rail (k / 2) b)
rail_of_input k = go (same? (k % 2) 0)
  where
    go : (k % 2 ≡ 0) ⊎ (k % 2 ≢ 0) → (b : Bool) × (k ≡ input_rail (k / 2) b)
    go (inl e) = (false, omega arith)
    go (inr e) = (true, omega arith)

pub word_rails_0 : (w : ℕ → Bool) (i : ℕ) → word_rails w (2 * i) ≡ not (w i)
word_rails_0 w i =
    let a : 2 * i % 2 ≡ 0 = omega arith in
    let b : 2 * i / 2 ≡ i = omega arith in
    rw (a, b)

pub word_rails_1 : (w : ℕ → Bool) (i : ℕ) → word_rails w (2 * i + 1) ≡ w i
word_rails_1 w i =
    let a : (2 * i + 1) % 2 ≡ 1 = omega arith in
    let b : (2 * i + 1) / 2 ≡ i = omega arith in
    rw (a, b)

pub input_rail_half : (i : ℕ) (b : Bool) → input_rail i b / 2 ≡ i
input_rail_half i false = omega arith
input_rail_half i true = omega arith

pub input_rail_inside : (N : Net) (i : ℕ) (b : Bool) → i < N.inputs → input_rail i b < rails N
input_rail_inside N i false h = omega arith
input_rail_inside N i true h = omega arith

pub rails_of_inputs_in : (N : Net) (A : ℕ → Bool) (i : ℕ) (b : Bool) → i < N.inputs → A i ≡ true → rails_of_inputs N A (input_rail i b) ≡ true
rails_of_inputs_in N A i b h a = and_in (ltb (input_rail i b) (rails N)) (A (input_rail i b / 2)) (lt-ltb (input_rail i b) (rails N) (input_rail_inside N i b h)) (rw (input_rail_half i b) a)

-- only the rails of c matter
pub rise_up_cong : (N : Net) (c d : Row) → ((k : ℕ) → k < rails N → c k ≡ d k) → rise_up N c ≡ rise_up N d
rise_up_cong N c d h = fun_ext (λ r. fun_ext (λ k. by_net_both (λ a b. a ≡ b) N k (c k) (N.fires r k) (d k) (N.fires r k) (h k) (λ x. refl) (λ x. refl)))

-- with the rails of A taken away, nets are settled as with these rails held low
pub rise_up-∖ : (N : Net) (c : Row) (A : ℕ → Bool) (r : Row) (k : ℕ) → rise_up N (c ∖ rails_of_inputs N A) r k ≡ (rise_up N c r ∖ rails_of_inputs N A) k
rise_up-∖ N c A r k = go (ltb k (rails N))
  where
    go : (b : Bool)
        → cond b (c k && not (b && A (k / 2))) (cond (ltb k (nets N)) (N.fires r k) false) ≡ (cond b (c k) (cond (ltb k (nets N)) (N.fires r k) false) && not (b && A (k / 2)))
    go true = refl
    go false = sym (and-true (cond (ltb k (nets N)) (N.fires r k) false))

-- ---- pins

pub AllPins-map : (P Q : ℕ → Type 0) → ((p : ℕ) → P p → Q p) → (l : List ℕ) → AllPins P l → AllPins Q l
AllPins-map P Q f [] h = tt
AllPins-map P Q f (p ∷ ps) h = (f p h.0, AllPins-map P Q f ps h.1)

pub all_low_in : (r : Row) (l : List ℕ) → AllPins (λ p. r p ≡ false) l → all_low r l ≡ true
all_low_in r [] h = refl
all_low_in r (p ∷ ps) h = rw h.0 (all_low_in r ps h.1)

pub all_low_out : (r : Row) (l : List ℕ) → all_low r l ≡ true → AllPins (λ p. r p ≡ false) l
all_low_out r [] e = tt
all_low_out r (p ∷ ps) e = (of_not (r p) (and_left (not (r p)) (all_low r ps) e), all_low_out r ps (and_right (not (r p)) (all_low r ps) e))

pub all_low_low : (l : List ℕ) → all_low low l ≡ true
all_low_low [] = refl
all_low_low (p ∷ ps) = all_low_low ps

pub all_low_anti : (r s : Row) → r ⊑ s → (l : List ℕ) → all_low s l ≡ true → all_low r l ≡ true
all_low_anti r s h l e = all_low_in r l (AllPins-map (λ p. s p ≡ false) (λ p. r p ≡ false) (λ p x. not-true (r p) (λ y. clash (h p y) x)) l (all_low_out s l e))

pub all_low_local : (r s : Row) (l : List ℕ) → AllPins (λ p. r p ≡ s p) l → all_low r l ≡ all_low s l
all_low_local r s [] h = refl
all_low_local r s (p ∷ ps) h = ap₂ (λ a b. not a && b) h.0 (all_low_local r s ps h.1)

-- ---- the gate rule

-- a gate with hold waits until all its pins are low
pub hold_waits : (N : Net) (r : Row) (g : ℕ) → N.hold g ≡ true → may_fall N r g ≡ true → AllPins (λ p. r p ≡ false) (N.pins g)
hold_waits N r g h e = all_low_out r (N.pins g) (subst (λ (b : Bool). cond b (all_low r (N.pins g)) (not (N.fires r g)) ≡ true) h e)

module _ (S : Acyclic) where
  -- a gate that may rise may not fall
  pub fires_may_fall : (r : Row) (g : ℕ) → S.net.fires r g ≡ true → may_fall S.net r g ≡ false
  fires_may_fall r g e = go (S.net.hold g)
    where
      go : (b : Bool) → cond b (all_low r (S.net.pins g)) (not (S.net.fires r g)) ≡ false
      go true = not-true (all_low r (S.net.pins g)) (λ x. clash e (S.fires_low r g x))
      go false = ap not e

  pub may_fall_anti : (r s : Row) → r ⊑ s → (g : ℕ) → may_fall S.net s g ≡ true → may_fall S.net r g ≡ true
  may_fall_anti r s h g e = go (S.net.hold g) e
    where
      go : (b : Bool) → cond b (all_low s (S.net.pins g)) (not (S.net.fires s g)) ≡ true
          → cond b (all_low r (S.net.pins g)) (not (S.net.fires r g)) ≡ true
      go true f = all_low_anti r s h (S.net.pins g) f
      go false f = ap not (not-true (S.net.fires r g) (λ x. clash f (ap not (S.fires_mono r s h g x))))

  pub may_fall_local : (r s : Row) (g : ℕ) → AllPins (λ p. r p ≡ s p) (S.net.pins g) → may_fall S.net r g ≡ may_fall S.net s g
  may_fall_local r s g h = ap₂ (λ a b. cond (S.net.hold g) b (not a)) (S.fires_local r s g h) (all_low_local r s (S.net.pins g) h)

  pub fires_of_low : (g : ℕ) → S.net.fires low g ≡ false
  fires_of_low g = S.fires_low low g (all_low_low (S.net.pins g))

  -- where all is low every gate may fall
  pub may_fall_low : (g : ℕ) → may_fall S.net low g ≡ true
  may_fall_low g = go (S.net.hold g)
    where
      go : (b : Bool) → cond b (all_low low (S.net.pins g)) (not (S.net.fires low g)) ≡ true
      go true = all_low_low (S.net.pins g)
      go false = ap not (fires_of_low g)
