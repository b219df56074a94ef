-- The lists that the code makes are the run that the witness is. Assumes nothing.
use Prim.Native.Nat.{ℕ, ◌+◌, ◌*◌, ◌/◌, ◌≤◌, ◌<◌}
use native.Mathlib.Omega.{arith}
use native.Mathlib.Decide.{ℕ_discrete, dec_lt}
use mathlib.Core.Path.{◌≡◌, refl, sym, ap, ap₂, ◌∙◌}
use mathlib.Core.Bool.{Bool, true, false, not, cond, ◌&&◌, ◌||◌}
use mathlib.Core.List.{List, []}
use lib.Dec.{eqb}
use borrow.Author.Tests.{eq-eqb, ne_eqb, le-ltb, lt-ltb}
use Rattle.runs.specs.Row.{Row, low, only, toggle, after, ◌∖◌}
use Rattle.runs.specs.Net.{Net, nets, rails, rise_step, fall_step, rails_of_inputs}
use Rattle.runs.proofs.Test.{clash}
use Rattle.runs.proofs.Rise.{settled_rail}
use Rattle.netlist.specs.declared.Counts.{Counts}
use Rattle.verdict.specs.declared.Verdict.{Verdict}
use Rattle.check_spec.specs.Lists.{some}
use Rattle.check_spec.specs.Content.{Content}
use Rattle.check_spec.specs.Rows.{net_of}
use Rattle.check_spec.specs.Words.{rails_for}
use Rattle.check_spec.specs.Checks.{rest}
use Rattle.check_spec.specs.Demands.{LoopFree}
use Rattle.check_spec.proofs.OneWord.{rest_settled}
use Rattle.circuit.specs.Stage.{net_count}
use Rattle.circuit_steps.proofs.Stages.{SameStage}
use Rattle.circuit_steps.proofs.Rules.{held_in, RailsBelow, InputKept, rise_moves, below_stays, fall_moves, kept_stays}
use Rattle.run_spec.specs.Played.{played, rise_by}
use Rattle.run_spec.specs.Witness.{of_runs, of_falls, held_back, witness_run}
use Rattle.run_spec.proofs.Played.{played_alike}
use Rattle.run_spec.proofs.OneWord.{to_rest}
use Rattle.run_spec.proofs.Numbers.{self, held_input, held_gate, held_none, rise_is}
use Rattle.call_witness.specs.Lists.{moving, least_first, without, alone, input_under, gate_under, rise_in, fall_in}

-- ---- what is held back

module _ (s : Content) (c : Counts) (code : List ℕ) (same : SameStage s c code) (v : Verdict) (a b : ℕ) (apart : ¬ (a ≡ b)) where
  abbrev i : ℕ
  i = input_under c v a

  abbrev g : ℕ
  g = gate_under c v b

  abbrev N : Net
  N = net_of s

  no_input : (k : ℕ) → rails_of_inputs N (only c.inputs) k ≡ false
  no_input k = go (dec_lt k (rails N))
    where
      go : Dec (k < rails N) → rails_of_inputs N (only c.inputs) k ≡ false
      go (yes h) = rw (lt-ltb k (rails N) h, ne_eqb (k / 2) c.inputs (λ q. omega (arith, same.inputs)))
      go (no h) = rw (le-ltb k (rails N) (omega arith))

  or-false : (x : Bool) → (x || false) ≡ x
  or-false true = refl
  or-false false = refl

  held_is : (k : ℕ) → k < nets N → held_in N i g k ≡ held_back s v a b k
  held_is k h = go (ℕ_discrete v.number a) (ℕ_discrete v.number b)
    where
      not_none : eqb k (net_count c) ≡ false
      not_none = ne_eqb k (net_count c) (λ q. omega (arith, same.inputs, same.gates))

      go : Dec (v.number ≡ a) → Dec (v.number ≡ b) → held_in N i g k ≡ held_back s v a b k
      go (yes p) (yes q) = absurd (apart (sym p ∙ q))
      go (yes p) (no q) =
          rw (eq-eqb v.number a p, ne_eqb v.number b q, not_none) (or-false (rails_of_inputs N (only v.at) k) ∙ sym (ap (λ (X : Row). X k) (held_input s v a b p)))
      go (no p) (yes q) =
          rw (ne_eqb v.number a p, eq-eqb v.number b q, no_input k)
          (ap (λ (n : ℕ). eqb k (2 * n + v.at)) same.inputs ∙ sym (ap (λ (X : Row). X k) (held_gate s v a b p q)))
      go (no p) (no q) =
          rw (ne_eqb v.number a p, ne_eqb v.number b q, no_input k, not_none) (sym (ap (λ (X : Row). X k) (held_none s v a b p q)))

  gate_high : rails N ≤ g
  gate_high = go (ℕ_discrete v.number b)
    where
      go : Dec (v.number ≡ b) → rails N ≤ gate_under c v b
      go (yes q) = rw (eq-eqb v.number b q) (omega (arith, same.inputs))
      go (no q) = rw (ne_eqb v.number b q) (omega (arith, same.inputs))

  module _ (w : ℕ) where
    abbrev rails-of : Row
    rails-of = rails_for w

    pub rise_alike : (m : ℕ) → played (moving N (without w i) g) self (nets N) m low ≡ played (λ r. rise_step N rails-of r ∖ held_back s v a b) self (nets N) m low
    rise_alike m =
        played_alike (moving N (without w i) g) (λ r. rise_step N rails-of r ∖ held_back s v a b) self (nets N)
        (λ x y. RailsBelow N (without w i) x × (x ≡ y))
        (λ x y z k h. rise_moves N rails-of i g (without w i) gate_high (λ k l. refl) x z.0 k h
        ∙ ap (λ (b : Bool). rise_step N rails-of x k && not b) (held_is k h) ∙ ap (λ (t : Row). (rise_step N rails-of t ∖ held_back s v a b) k) z.1)
        (λ x y k z e. (below_stays N rails-of i g (without w i) gate_high (λ k l. refl) x k z.0 e, ap (λ (t : Row). toggle t k) z.1))
        m low low ((λ k l e. absurd (clash e refl)), refl)

    pub fall_alike : (m : ℕ) (R : Row) → InputKept N rails-of i R
        → played (moving N (alone w i) g) self (nets N) m R ≡ played (λ r. fall_step N r ∖ held_back s v a b) self (nets N) m R
    fall_alike m R kept =
        played_alike (moving N (alone w i) g) (λ r. fall_step N r ∖ held_back s v a b) self (nets N)
        (λ x y. InputKept N rails-of i x × (x ≡ y))
        (λ x y z k h. fall_moves N rails-of i g (alone w i) gate_high (λ k l. refl) x z.0 k h
        ∙ ap (λ (b : Bool). fall_step N x k && not b) (held_is k h) ∙ ap (λ (t : Row). (fall_step N t ∖ held_back s v a b) k) z.1)
        (λ x y k z e. (kept_stays N rails-of i g (alone w i) gate_high (λ k l. refl) x k z.0 e, ap (λ (t : Row). toggle t k) z.1))
        m R R (kept, refl)

-- ---- the run

module _ (s : Content) (c : Counts) (code : List ℕ) (same : SameStage s c code) (v : Verdict) (w : ℕ) where
  abbrev X : Row
  X = held_back s v 14 15

  rise_code : rise_in c code v w ≡ rise_by self (net_of s) (rails_for w) X
  unfolding rise_in
  rise_code =
      ap (λ (M : Net). least_first M (without w (input_under c v 14)) (gate_under c v 15) low) same.net
      ∙ rise_alike s c code same v 14 15 (λ q. omega arith) w (nets (net_of s))

  pub rise_same : some (eqb v.number) of_runs ≡ true → rise_in c code v w ≡ (witness_run s v w).rise
  rise_same h = rise_code ∙ sym (rise_is s v w v.number refl X (held_back s v 20 21) refl refl h)

  -- under 20 the rails of the input are as the word calls for once the rise has ended
  input_kept : (v.number ≡ 20 → LoopFree (net_of s)) → InputKept (net_of s) (rails_for w) (input_under c v 20) (after low (rise_by self (net_of s) (rails_for w) X))
  input_kept free k h t = go (ℕ_discrete v.number 20)
    where
      go : Dec (v.number ≡ 20) → after low (rise_by self (net_of s) (rails_for w) X) k ≡ rails_for w k
      go (yes p) =
          ap (λ (Y : Row). after low (rise_by self (net_of s) (rails_for w) Y) k) (held_none s v 14 15 (λ q. omega arith) (λ q. omega arith))
          ∙ ap (λ (r : Row). r k) (to_rest s s (free p) w self self)
          ∙ settled_rail (net_of s) (rails_for w) (rest s w) (rest_settled s s (free p) w) k h
      go (no p) =
          absurd (clash t (ap (λ (x : ℕ). eqb (k / 2) x) (ap (λ (b : Bool). cond b v.at c.inputs) (ne_eqb v.number 20 p)) ∙ ne_eqb (k / 2) c.inputs (λ q. omega (arith, same.inputs))))

  pub fall_same : (v.number ≡ 20 → LoopFree (net_of s)) → fall_in c code v w ≡ (witness_run s v w).fall
  unfolding fall_in witness_run
  fall_same free =
      ap (λ (l : List ℕ). cond (some (eqb v.number) of_falls) l [])
      (ap₂ (λ (M : Net) (l : List ℕ). least_first M (alone w (input_under c v 20)) (gate_under c v 21) (after low l)) same.net rise_code
      ∙ fall_alike s c code same v 20 21 (λ q. omega arith) w (nets (net_of s)) (after low (rise_by self (net_of s) (rails_for w) X)) (input_kept free))
