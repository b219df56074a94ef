-- What moves towards a goal are the steps of a rise or of a fall, with the rails of an input and a gate held back. Assumes nothing.
use Prim.Native.Nat.{ℕ, ◌/◌, ◌≤◌, ◌<◌}
use native.Mathlib.Omega.{arith}
use mathlib.Core.Path.{◌≡◌, refl, sym, ap, ap₂, ◌∙◌, subst}
use mathlib.Core.Logic.{◌⊎◌, inl, inr, ◌≢◌}
use mathlib.Core.Bool.{Bool, true, false, not, cond, ◌&&◌, ◌||◌}
use lib.Dec.{eqb}
use Rattle.runs.specs.Row.{Row, low, only, toggle, ◌∖◌}
use Rattle.runs.specs.Net.{Net, nets, rails, IsGate, may_rise, may_fall, rise_up, rise_down, rise_step, fall_up, fall_down, fall_step, rails_of_inputs}
use Rattle.runs.proofs.Test.{clash, and_left, same?, eqb_other, lt-ltb, le-ltb}
use Rattle.runs.proofs.Row.{toggle_same, toggle_other}
use Rattle.runs.proofs.Net.{Place, rail, gate, none, place, by_net_rail, by_net_gate, by_net_none, by_net_both}
use Rattle.check_spec.specs.Lists.{xor}
use Rattle.circuit_steps.specs.Moves.{gate_moves, moves}

-- the rails of input i and the net g
abbrev pub held_in : Net → ℕ → ℕ → Row
held_in N i g k = rails_of_inputs N (only i) k || only g k

-- ---- by rails and gates

cond_same : (b x : Bool) → cond b x x ≡ x
cond_same true x = refl
cond_same false x = refl

module _ (N : Net) (r : Row) (k : ℕ) where
  rise_rail : (c : Row) → k < rails N → rise_step N c r k ≡ cond (r k) false (c k)
  rise_rail c h = ap₂ (λ (d u : Bool). cond (r k) d u) (by_net_rail N k false (may_fall N r k) h) (by_net_rail N k (c k) (may_rise N r k) h)

  rise_gate : (c : Row) → IsGate N k → rise_step N c r k ≡ gate_moves N r k
  rise_gate c h = ap₂ (λ (d u : Bool). cond (r k) d u) (by_net_gate N k false (may_fall N r k) h) (by_net_gate N k (c k) (may_rise N r k) h)

  fall_rail : k < rails N → fall_step N r k ≡ r k
  fall_rail h = ap₂ (λ (d u : Bool). cond (r k) d u) (by_net_rail N k true (may_fall N r k) h) (by_net_rail N k false (may_rise N r k) h) ∙ self (r k)
    where
      self : (b : Bool) → cond b true false ≡ b
      self true = refl
      self false = refl

  fall_gate : IsGate N k → fall_step N r k ≡ gate_moves N r k
  fall_gate h = ap₂ (λ (d u : Bool). cond (r k) d u) (by_net_gate N k true (may_fall N r k) h) (by_net_gate N k false (may_rise N r k) h)

  module _ (goal : Row) where
    moves-rail : k < rails N → moves N goal r k ≡ xor (r k) (goal k)
    moves-rail h = by_net_rail N k (xor (r k) (goal k)) (gate_moves N r k) h

    moves-gate : IsGate N k → moves N goal r k ≡ gate_moves N r k
    moves-gate h = by_net_gate N k (xor (r k) (goal k)) (gate_moves N r k) h

-- ---- what is held back of the rails, and of the gates

module _ (N : Net) (i g k : ℕ) where
  held_rail : rails N ≤ g → k < rails N → held_in N i g k ≡ eqb (k / 2) i
  held_rail low h =
      let a : eqb k g ≡ false = eqb_other k g (λ e. omega arith) in
      rw (lt-ltb k (rails N) h, a) (or-none (eqb (k / 2) i))
    where
      or-none : (b : Bool) → (b || false) ≡ b
      or-none true = refl
      or-none false = refl

  held_gate : rails N ≤ k → held_in N i g k ≡ eqb k g
  held_gate h = rw (le-ltb k (rails N) h)

-- ---- the rise: the goal is what the word calls for, without the rails of input i

abbrev pub RiseGoal : Net → Row → ℕ → Row → Type 0
RiseGoal N c i goal = (k : ℕ) → k < rails N → goal k ≡ (c k && not (eqb (k / 2) i))

-- no rail is high that is not so in the goal
abbrev pub RailsBelow : Net → Row → Row → Type 0
RailsBelow N goal r = (k : ℕ) → k < rails N → r k ≡ true → goal k ≡ true

module _ (N : Net) (c : Row) (i g : ℕ) (goal : Row) (low-gate : rails N ≤ g) (is : RiseGoal N c i goal) where
  rail-case : (a b x : Bool) → (a ≡ true → (x && not b) ≡ true) → (xor a (x && not b) && true) ≡ (cond a false x && not b)
  rail-case true b x h = rw (h refl)
  rail-case false true true h = refl
  rail-case false true false h = refl
  rail-case false false true h = refl
  rail-case false false false h = refl

  pub rise_moves : (r : Row) → RailsBelow N goal r → (k : ℕ) → k < nets N → (moves N goal r ∖ only g) k ≡ (rise_step N c r ∖ held_in N i g) k
  rise_moves r below k h = go (place N k)
    where
      go : Place N k → (moves N goal r ∖ only g) k ≡ (rise_step N c r ∖ held_in N i g) k
      go (rail l) =
          let a : eqb k g ≡ false = eqb_other k g (λ e. omega arith) in
          let b : (r k ≡ true → (c k && not (eqb (k / 2) i)) ≡ true) = λ e. sym (is k l) ∙ below k l e in
          ap₂ (λ (x y : Bool). x && not y) (moves-rail N r k goal l ∙ ap (xor (r k)) (is k l)) a
          ∙ rail-case (r k) (eqb (k / 2) i) (c k) b
          ∙ sym (ap₂ (λ (x y : Bool). x && not y) (rise_rail N r k c l) (held_rail N i g k low-gate l))
      go (gate l) =
          ap (λ (x : Bool). x && not (eqb k g)) (moves-gate N r k goal l ∙ sym (rise_gate N r k c l))
          ∙ sym (ap (λ (y : Bool). rise_step N c r k && not y) (held_gate N i g k l.0))
      go (none l) = absurd (omega arith)

  -- and so it stays
  pub below_stays : (r : Row) (k : ℕ) → RailsBelow N goal r → (moves N goal r ∖ only g) k ≡ true → RailsBelow N goal (toggle r k)
  below_stays r k below e j h t = go (same? j k)
    where
      risen : (a b : Bool) → xor a b ≡ true → not a ≡ true → b ≡ true
      risen true b p q = absurd (clash q refl)
      risen false b p q = p

      go : (j ≡ k) ⊎ (j ≢ k) → goal j ≡ true
      go (inr d) = below j h (sym (toggle_other r k j d) ∙ t)
      go (inl q) =
          let l : k < rails N = subst (λ (x : ℕ). x < rails N) q h in
          let m : xor (r k) (goal k) ≡ true = sym (moves-rail N r k goal l) ∙ and_left (moves N goal r k) (not (eqb k g)) e in
          let u : not (r k) ≡ true = sym (toggle_same r k) ∙ subst (λ (x : ℕ). toggle r k x ≡ true) q t in
          subst (λ (x : ℕ). goal x ≡ true) (sym q) (risen (r k) (goal k) m u)

-- ---- the fall: the goal is all low, but for the rails of input i

abbrev pub FallGoal : Net → Row → ℕ → Row → Type 0
FallGoal N c i goal = (k : ℕ) → k < rails N → goal k ≡ (c k && eqb (k / 2) i)

-- the rails of input i are as the word calls for
abbrev pub InputKept : Net → Row → ℕ → Row → Type 0
InputKept N c i r = (k : ℕ) → k < rails N → eqb (k / 2) i ≡ true → r k ≡ c k

module _ (N : Net) (c : Row) (i g : ℕ) (goal : Row) (low-gate : rails N ≤ g) (is : FallGoal N c i goal) where
  kept_case : (a b x : Bool) → (b ≡ true → a ≡ x) → (xor a (x && b) && true) ≡ (a && not b)
  kept_case true true true h = refl
  kept_case true true false h = absurd (clash refl (h refl))
  kept_case false true true h = absurd (clash (h refl) refl)
  kept_case false true false h = refl
  kept_case true false true h = refl
  kept_case true false false h = refl
  kept_case false false true h = refl
  kept_case false false false h = refl

  pub fall_moves : (r : Row) → InputKept N c i r → (k : ℕ) → k < nets N → (moves N goal r ∖ only g) k ≡ (fall_step N r ∖ held_in N i g) k
  fall_moves r kept k h = go (place N k)
    where
      go : Place N k → (moves N goal r ∖ only g) k ≡ (fall_step N r ∖ held_in N i g) k
      go (rail l) =
          let a : eqb k g ≡ false = eqb_other k g (λ e. omega arith) in
          ap₂ (λ (x y : Bool). x && not y) (moves-rail N r k goal l ∙ ap (xor (r k)) (is k l)) a
          ∙ kept_case (r k) (eqb (k / 2) i) (c k) (kept k l)
          ∙ sym (ap₂ (λ (x y : Bool). x && not y) (fall_rail N r k l) (held_rail N i g k low-gate l))
      go (gate l) =
          ap (λ (x : Bool). x && not (eqb k g)) (moves-gate N r k goal l ∙ sym (fall_gate N r k l))
          ∙ sym (ap (λ (y : Bool). fall_step N r k && not y) (held_gate N i g k l.0))
      go (none l) = absurd (omega arith)

  pub kept_stays : (r : Row) (k : ℕ) → InputKept N c i r → (moves N goal r ∖ only g) k ≡ true → InputKept N c i (toggle r k)
  kept_stays r k kept e j h t = go (same? j k)
    where
      still : (a x : Bool) → a ≡ x → xor a (x && true) ≡ true → ⊥
      still true true p q = clash q refl
      still true false p q = clash refl p
      still false true p q = clash p refl
      still false false p q = clash q refl

      go : (j ≡ k) ⊎ (j ≢ k) → toggle r k j ≡ c j
      go (inr d) = toggle_other r k j d ∙ kept j h t
      go (inl q) =
          let l : k < rails N = subst (λ (x : ℕ). x < rails N) q h in
          let b : eqb (k / 2) i ≡ true = subst (λ (x : ℕ). eqb (x / 2) i ≡ true) q t in
          let m : xor (r k) (goal k) ≡ true = sym (moves-rail N r k goal l) ∙ and_left (moves N goal r k) (not (eqb k g)) e in
          absurd (still (r k) (c k) (kept k l b) (ap (xor (r k)) (sym (is k l ∙ ap (λ (x : Bool). c k && x) b)) ∙ m))

-- ---- with nothing held back

module _ (N : Net) (r : Row) (k : ℕ) where
  free-case : (a x : Bool) → (a ≡ true → x ≡ true) → xor a x ≡ cond a false x
  free-case true x f = rw (f refl)
  free-case false x f = refl

  to_low : (a : Bool) → xor a false ≡ a
  to_low true = refl
  to_low false = refl

  -- a net that does not exist never switches
  pub moves_none : (goal : Row) → nets N ≤ k → moves N goal r k ≡ false
  moves_none goal h = by_net_none N k (xor (r k) (goal k)) (gate_moves N r k) h

  cond-false : (b u d : Bool) → u ≡ false → d ≡ false → cond b d u ≡ false
  cond-false true u d p q = q
  cond-false false u d p q = p

  pub rise_free : (c goal : Row) → ((j : ℕ) → j < rails N → goal j ≡ c j) → RailsBelow N c r → moves N goal r k ≡ rise_step N c r k
  rise_free c goal is below = go (place N k)
    where
      go : Place N k → moves N goal r k ≡ rise_step N c r k
      go (rail l) = moves-rail N r k goal l ∙ ap (xor (r k)) (is k l) ∙ free-case (r k) (c k) (below k l) ∙ sym (rise_rail N r k c l)
      go (gate l) = moves-gate N r k goal l ∙ sym (rise_gate N r k c l)
      go (none l) =
          moves_none goal l ∙ sym (cond-false (r k) (rise_up N c r k) (rise_down N r k) (by_net_none N k (c k) (may_rise N r k) l) (by_net_none N k false (may_fall N r k) l))

  pub fall_free : (goal : Row) → ((j : ℕ) → j < rails N → goal j ≡ false) → moves N goal r k ≡ fall_step N r k
  fall_free goal is = go (place N k)
    where
      go : Place N k → moves N goal r k ≡ fall_step N r k
      go (rail l) = moves-rail N r k goal l ∙ ap (xor (r k)) (is k l) ∙ to_low (r k) ∙ sym (fall_rail N r k l)
      go (gate l) = moves-gate N r k goal l ∙ sym (fall_gate N r k l)
      go (none l) =
          moves_none goal l ∙ sym (cond-false (r k) (fall_up N r k) (fall_down N r k) (by_net_none N k false (may_rise N r k) l) (by_net_none N k true (may_fall N r k) l))

-- in a rise no rail rises that is not called for
pub free_stays : (N : Net) (c r : Row) (k : ℕ) → RailsBelow N c r → rise_step N c r k ≡ true → RailsBelow N c (toggle r k)
free_stays N c r k below e j h t = go (same? j k)
  where
    risen : (a x : Bool) → cond a false x ≡ true → x ≡ true
    risen true x p = absurd (clash p refl)
    risen false x p = p

    go : (j ≡ k) ⊎ (j ≢ k) → c j ≡ true
    go (inr d) = below j h (sym (toggle_other r k j d) ∙ t)
    go (inl q) =
        let l : k < rails N = subst (λ (x : ℕ). x < rails N) q h in
        subst (λ (x : ℕ). c x ≡ true) (sym q) (risen (r k) (c k) (sym (rise_rail N r k c l) ∙ e))

-- only the rails of a goal count
pub goal_alike : (N : Net) (goal goal' : Row) → ((k : ℕ) → k < rails N → goal k ≡ goal' k) → (r : Row) (k : ℕ) → moves N goal r k ≡ moves N goal' r k
goal_alike N goal goal' same r k =
    by_net_both (λ x y. x ≡ y) N k (xor (r k) (goal k)) (gate_moves N r k) (xor (r k) (goal' k)) (gate_moves N r k)
    (λ h. ap (xor (r k)) (same k h)) (λ x. refl) (λ x. refl)
