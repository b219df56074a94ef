-- The tests of 13, 14, 15, 20 and 21 find nothing in a word of a loop-free stage exactly if it spells the answer there and is input-complete and observable.
-- Assumes nothing.
use Prim.Native.Nat.{ℕ, zero, suc, ◌+◌, ◌-◌, ◌*◌, ◌/◌, ◌%◌, ◌^◌, ◌≤◌, ◌<◌}
use native.Mathlib.Omega.{arith}
use mathlib.Core.Path.{◌≡◌, refl, sym, ap, ◌∙◌, subst}
use mathlib.Core.Logic.{◌↔◌}
use mathlib.Core.Bool.{Bool, true, false, cond, not}
use lib.ListN.{length}
use lib.Dec.{eqb}
use Rattle.runs.specs.Row.{Row, only, ◌∖◌}
use Rattle.runs.specs.Net.{Net, nets, IsGate, input_rail, rails_of_inputs}
use Rattle.runs.specs.Settled.{Settled, SettledKept}
use Rattle.runs.specs.Pair.{DataOf, InputsData}
use Rattle.runs.specs.Checks.{Passes, FallPasses}
use Rattle.runs.specs.Complete.{Conforms}
use Rattle.runs.proofs.Test.{clash, not-true, not-false, of_not, and_in, and_left, and_right}
use Rattle.runs.proofs.Moves.{missing_held}
use Rattle.runs.proofs.Net.{rise_up-∖}
use Rattle.runs.proofs.Rise.{settled_inside}
use Rattle.runs.specs.Theory.{AllHold}
use Rattle.runs.proofs.Clear.{hold_fall_passes}
use Rattle.runs.proofs.Complete.{checks_conforms}
use Rattle.check_spec.specs.Lists.{bit_of}
use Rattle.check_spec.specs.Content.{Content}
use Rattle.check_spec.specs.Rows.{net_of, risen, fallen, data_of, all_data, all_null}
use Rattle.check_spec.specs.Words.{rails_for, answer}
use Rattle.check_spec.specs.Checks.{rest, wrong, incomplete, high_and, unobservable, fall_incomplete, fall_unobservable}
use Rattle.check_spec.specs.Demands.{LoopFree}
use Rattle.check_spec.proofs.Loops.{acyclic, risen_is, fallen_is, settled_is}
use Rattle.check_spec.proofs.Pairs.{all_data_holds, all_null_holds}

-- the tests of the rise find nothing in word w, and those of the fall
pub record CleanRise (s r : Content) (w : ℕ) : Type 0 where
  pub right : (j : ℕ) → j < length s.outputs → wrong s r w j ≡ false
  pub complete : (i : ℕ) → i < s.inputs → incomplete s w i ≡ false
  pub observable : (g : ℕ) → g < length s.gates → unobservable s w g ≡ false

pub record CleanFall (s : Content) (w : ℕ) : Type 0 where
  pub complete : (i : ℕ) → i < s.inputs → fall_incomplete s w i ≡ false
  pub observable : (g : ℕ) → g < length s.gates → fall_unobservable s w g ≡ false

bit-rails : (b : ℕ) → b < 2 → eqb b 0 ≡ not (eqb b 1)
bit-rails zero h = refl
bit-rails (suc zero) h = refl
bit-rails (suc (suc b)) h = absurd (omega arith)

-- the rails of an input by its bit in a word: they spell it, and so hold DATA
input_rails : (w i : ℕ) → (rails_for w (2 * i) ≡ not (bit_of w i)) × (rails_for w (2 * i + 1) ≡ bit_of w i)
input_rails w i =
    let a : 2 * i / 2 ≡ i = omega arith in
    let b : 2 * i % 2 ≡ 0 = omega arith in
    let c : (2 * i + 1) / 2 ≡ i = omega arith in
    let d : (2 * i + 1) % 2 ≡ 1 = omega arith in
    (rw (a, b) (bit-rails (w / 2 ^ i % 2) (omega arith)), rw (c, d))

pub spells_bit : (w i : ℕ) (b : Bool) → bit_of w i ≡ b → DataOf (rails_for w) (input_rail i) b
spells_bit w i true e = ((input_rails w i).1 ∙ e, (input_rails w i).0 ∙ ap not e)
spells_bit w i false e = ((input_rails w i).0 ∙ ap not e, (input_rails w i).1 ∙ e)

pub word_data : (N : Net) (w : ℕ) → InputsData N (rails_for w)
word_data N w i h = (input_rails w i).0 ∙ ap not (sym (input_rails w i).1)

module _ (s : Content) (w : ℕ) (test : Row → ℕ → Bool) (g : ℕ) where
  pub high_out : high_and s w test g ≡ true → (rest s w (2 * s.inputs + g) ≡ true) × (test (rest s w) (2 * s.inputs + g) ≡ true)
  unfolding high_and
  high_out = go (rest s w (2 * s.inputs + g)) refl
    where
      go : (b : Bool) → rest s w (2 * s.inputs + g) ≡ b → cond b (test (rest s w) (2 * s.inputs + g)) false ≡ true
          → (rest s w (2 * s.inputs + g) ≡ true) × (test (rest s w) (2 * s.inputs + g) ≡ true)
      go true e t = (e, t)
      go false e t = absurd (clash t refl)

  high_in_holds : rest s w (2 * s.inputs + g) ≡ true → test (rest s w) (2 * s.inputs + g) ≡ true → high_and s w test g ≡ true
  unfolding high_and
  high_in_holds e t = rw e t

module _ (s r : Content) (free : LoopFree (net_of s)) (w : ℕ) where
  abbrev N : Net
  N = net_of s

  abbrev c : Row
  c = rails_for w

  abbrev R : Row
  R = rest s w

  abbrev a : ℕ → Bool
  a = answer r (bit_of w)

  -- the rails of input i
  abbrev of : ℕ → Row
  of i = rails_of_inputs N (only i)

  -- the rest is settled for the word's rails, and the only row that is
  pub rest_settled : Settled N c R
  rest_settled = (settled_is s free c).0

  pub rest_only : (t : Row) → Settled N c t → t ≡ R
  rest_only = (settled_is s free c).1

  pub inside : (k : ℕ) → nets N ≤ k → R k ≡ false
  inside k h = not-true (R k) (λ e. omega (arith, settled_inside N c R rest_settled k e))

  -- the row with input i NULL
  pub missing_settled : (i : ℕ) → Settled N (c ∖ of i) (risen N c (of i))
  missing_settled i k = (risen_is s free c (of i)).0 k ∙ sym (rise_up-∖ N c (only i) (risen N c (of i)) k)

  pub gate : (g : ℕ) → g < length s.gates → IsGate N (2 * s.inputs + g)
  gate g l = (omega arith, omega arith)

  -- a gate that is high in w and fails a test fails it under its index
  high-at : (g : ℕ) → IsGate N g → (test : Row → ℕ → Bool) → R g ≡ true → test R g ≡ true → high_and s w test (g - 2 * s.inputs) ≡ true
  high-at g l test u t =
      let e : 2 * s.inputs + (g - 2 * s.inputs) ≡ g = omega (arith, l.0) in
      high_in_holds s w test (g - 2 * s.inputs) (ap R e ∙ u) (ap (test R) e ∙ t)

  pub rise_passes : CleanRise s r w → Passes N c a
  unfolding wrong incomplete unobservable
  rise_passes k = record {
    right = λ t h j l.
        let d : data_of R (N.rail j) (a j) ≡ true = not-false (data_of R (N.rail j) (a j)) (λ e. clash (ap not e) (k.right j l)) in
        subst (λ (u : Row). DataOf u (N.rail j) (a j)) (sym (rest_only t h))
        (and_left (R (N.rail j (a j))) _ d, of_not (R (N.rail j (not (a j)))) (and_right (R (N.rail j (a j))) _ d));
    complete = λ i l t h d.
        let e : t ≡ risen N c (of i) = (risen_is s free c (of i)).1 t (missing_held N c (only i) t h) in
        clash (ap (all_data N) (sym e) ∙ (all_data_holds N t).1 d) (k.complete i l);
    observable = λ t h g l u v f d.
        let e : v ≡ risen N c (only g) = (risen_is s free c (only g)).1 v f in
        clash (high-at g l (λ row net. all_data N (risen N c (only net))) (sym (ap (λ (x : Row). x g) (rest_only t h)) ∙ u)
        (ap (all_data N) (sym e) ∙ (all_data_holds N v).1 d)) (k.observable (g - 2 * s.inputs) (omega (arith, l.0, l.1)));
  }

  pub fall_passes : CleanFall s w → FallPasses N c
  unfolding fall_incomplete fall_unobservable
  fall_passes k = record {
    complete = λ t h i l v f d.
        let e : v ≡ fallen N R (of i) = (fallen_is s free R (of i) inside).1 v (subst (λ (u : Row). SettledKept N (of i) u v) (rest_only t h) f) in
        clash (ap (all_null N) (sym e) ∙ (all_null_holds N v).1 d) (k.complete i l);
    observable = λ t h g l u v f d.
        let e : v ≡ fallen N R (only g) =
        (fallen_is s free R (only g) inside).1 v (subst (λ (y : Row). SettledKept N (only g) y v) (rest_only t h) f) in
        clash (high-at g l (λ row net. all_null N (fallen N row (only net))) (sym (ap (λ (x : Row). x g) (rest_only t h)) ∙ u)
        (ap (all_null N) (sym e) ∙ (all_null_holds N v).1 d)) (k.observable (g - 2 * s.inputs) (omega (arith, l.0, l.1)));
  }

  passes_rise : Passes N c a → CleanRise s r w
  unfolding wrong incomplete unobservable
  passes_rise p = record {
    right = λ j l. let d = p.right R rest_settled j l in ap not (and_in (R (N.rail j (a j))) _ d.0 (ap not d.1));
    complete = λ i l. not-true (incomplete s w i) (λ e. p.complete i l (risen N c (of i)) (missing_settled i) ((all_data_holds N (risen N c (of i))).0 e));
    observable = λ g l. not-true (unobservable s w g) (λ e.
        let h = high_out s w (λ row net. all_data N (risen N c (only net))) g e in
        let net = 2 * s.inputs + g in
        p.observable R rest_settled net (gate g l) h.0 (risen N c (only net)) (risen_is s free c (only net)).0
        ((all_data_holds N (risen N c (only net))).0 h.1));
  }

  passes_fall : FallPasses N c → CleanFall s w
  unfolding fall_incomplete fall_unobservable
  passes_fall p = record {
    complete = λ i l. not-true (fall_incomplete s w i)
        (λ e. p.complete R rest_settled i l (fallen N R (of i)) (fallen_is s free R (of i) inside).0 ((all_null_holds N (fallen N R (of i))).0 e));
    observable = λ g l. not-true (fall_unobservable s w g) (λ e.
        let h = high_out s w (λ row net. all_null N (fallen N row (only net))) g e in
        let net = 2 * s.inputs + g in
        p.observable R rest_settled net (gate g l) h.0 (fallen N R (only net)) (fallen_is s free R (only net) inside).0
        ((all_null_holds N (fallen N R (only net))).0 h.1));
  }

  -- "its settled outputs spell the reference's answer and it is input-complete and observable", exactly if the tests find nothing
  pub word_exactly : (CleanRise s r w × CleanFall s w) ↔ Conforms N c a
  word_exactly =
      let both = checks_conforms (acyclic s free) c a (word_data N w) in
      (λ k. both.0 (rise_passes k.0, fall_passes k.1), λ k. let p = both.1 k in (passes_rise p.0, passes_fall p.1))

  -- with hold everywhere the fall is clean where the rise is
  pub hold_clean : AllHold N → CleanRise s r w → CleanFall s w
  hold_clean hold k = passes_fall (hold_fall_passes (acyclic s free) c a (word_data N w) hold (rise_passes k))
