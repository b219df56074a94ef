-- Checks 13, 14 and 15 find nothing in a word exactly if the stage is tight there.
-- Assumes nothing.
use mathlib.Core.Path.{◌≡◌, sym, ap, ◌∙◌, subst}
use mathlib.Core.Bool.{Bool, true, false}
use Prim.Native.Nat.{ℕ, ◌/◌, ◌<◌}
use native.Mathlib.Omega.{arith}
use Rattle.runs.specs.Row.{Row, ◌∖◌, only}
use Rattle.runs.specs.Net.{IsGate, input_rail, rails_of_inputs}
use Rattle.runs.specs.Theory.{◌⊑◌}
use Rattle.runs.specs.Settled.{Settled, SettledHeld}
use Rattle.runs.specs.Pair.{AllData, Reads, InputsData}
use Rattle.runs.specs.Acyclic.{Acyclic}
use Rattle.runs.specs.Checks.{Passes}
use Rattle.runs.specs.Tight.{Supported, Tight}
use Rattle.runs.proofs.Test.{clash, not-true, not-false, eqb_same, eqb_eq}
use Rattle.runs.proofs.Row.{⊑-antisym}
use Rattle.runs.proofs.Net.{Place, rail, gate, none, place, rails_of_inputs_in}
use Rattle.runs.proofs.Pair.{data_high, input_one, all_data_up}
use Rattle.runs.proofs.Moves.{missing_held, held_missing}
use Rattle.runs.proofs.Rise.{settled_one, held_one, settled_exists, settled_data, settled_inside, supported-⊑-settled, held_exists, held_supported, held_low, supported-⊑-held}

module _ (S : Acyclic) (c : Row) (answer : ℕ → Bool) where
  -- it is enough that no supported row with all outputs DATA lacks a net of the settled row
  pub tight_from : ((R : Row) → Settled S.net c R → (r : Row) → Supported S.net c r → AllData S.net r → R ⊑ r) → (R : Row)
      → Settled S.net c R → (r : Row) → Supported S.net c r → AllData S.net r → r ≡ R
  tight_from f R rest r s d = ⊑-antisym r R (supported-⊑-settled S c r R s rest) (f R rest r s d)

  -- with a net held low that is high at rest, not all outputs are DATA
  pub tight_held : Tight S.net c answer → (R : Row) → Settled S.net c R → (X : Row) (k : ℕ) → X k ≡ true → R k ≡ true → (r : Row)
      → SettledHeld S.net c X r → ¬ (AllData S.net r)
  tight_held t R rest X k x u r h d = clash u (sym (ap (λ (s : Row). s k) (t.tight R rest r (held_supported S c X r h) d)) ∙ held_low S c X r h k x)

  module _ (word : InputsData S.net c) where
    module _ (ok : Passes S.net c answer) (R : Row) (rest : Settled S.net c R) (r : Row) (s : Supported S.net c r) (d : AllData S.net r) where
      -- if X is low in r, all outputs are DATA with X held low
      blocked : (X : Row) → ((a : Row) → SettledHeld S.net c X a → ¬ (AllData S.net a)) → ((k : ℕ) → X k ≡ true → r k ≡ false) → ⊥
      blocked X f x =
          let t : (a : Row) × SettledHeld S.net c X a = held_exists S c X in
          let above : r ⊑ t.0 = supported-⊑-held S c X r t.0 s x t.1 in
          let below : t.0 ⊑ R = supported-⊑-settled S c t.0 R (held_supported S c X t.0 t.1) rest in
          f t.0 t.1 (all_data_up S.net r t.0 R answer (ok.right R rest) above below d)

      lacks_none : (k : ℕ) → R k ≡ true → r k ≡ false → Place S.net k → ⊥
      lacks_none k u z (rail h) = blocked (rails_of_inputs S.net (only (k / 2))) (λ a g. ok.complete (k / 2) (omega arith) a (held_missing S.net c (only (k / 2)) a g)) off
        where
          -- the other rail of the input is low in R
          off : (m : ℕ) → rails_of_inputs S.net (only (k / 2)) m ≡ true → r m ≡ false
          off m x = not-true (r m) (λ v. clash v (rw (input_one S.net R (settled_data S.net c R rest word) k m h x u (supported-⊑-settled S c r R s rest m v)) z))
      lacks_none k u z (gate h) = blocked (only k) (ok.observable R rest k h u) (λ m x. rw (eqb_eq m k x) z)
      lacks_none k u z (none h) = omega (arith, settled_inside S.net c R rest k u)

    pub passes_tight : Passes S.net c answer → Tight S.net c answer
    passes_tight ok = record {
      right = ok.right;
      tight = tight_from (λ R rest r s d k u. not-false (r k) (λ z. lacks_none ok R rest r s d k u z (place S.net k)));
    }

    -- with an input missing, not all outputs are DATA
    pub tight_missing : Tight S.net c answer → (A : ℕ → Bool) (i : ℕ) → i < S.net.inputs → A i ≡ true → (r : Row)
        → SettledHeld S.net c (rails_of_inputs S.net A) r → ¬ (AllData S.net r)
    tight_missing t A i h a r g =
        let R : (R : Row) × Settled S.net c R = settled_exists S c in
        let b : (b : Bool) × (R.0 (input_rail i b) ≡ true) = data_high R.0 (input_rail i) (settled_data S.net c R.0 R.1 word i h) in
        tight_held t R.0 R.1 (rails_of_inputs S.net A) (input_rail i b.0) (rails_of_inputs_in S.net A i b.0 h a) b.1 r g

    pub tight_passes : Tight S.net c answer → Passes S.net c answer
    tight_passes t = record {
      right = t.right;
      complete = λ i h r g. tight_missing t (only i) i h (eqb_same i) r (missing_held S.net c (only i) r g);
      observable = λ R rest g h u r. tight_held t R rest (only g) g (eqb_same g) u r;
    }

-- One settled row of each sort is enough: a stage has no other.
module _ (S : Acyclic) (c R : Row) (rest : Settled S.net c R) where
  pub passes_at : (answer : ℕ → Bool) → Reads S.net R answer
      → ((i : ℕ) → i < S.net.inputs → (r : Row) × Settled S.net (c ∖ rails_of_inputs S.net (only i)) r × (¬ (AllData S.net r)))
      → ((g : ℕ) → IsGate S.net g → R g ≡ true → (r : Row) × SettledHeld S.net c (only g) r × (¬ (AllData S.net r)))
      → Passes S.net c answer
  passes_at answer reads f g = record {
    right = λ a h. subst (λ (r : Row). Reads S.net r answer) (settled_one S c R a rest h) reads;
    complete = λ i h r a. subst (λ (r : Row). ¬ (AllData S.net r)) (settled_one S (c ∖ rails_of_inputs S.net (only i)) (f i h).0 r (f i h).1 a) (f i h).2;
    observable = λ b rest' n h u r a. still_not n r a (g n h (subst (λ (r : Row). r n ≡ true) (settled_one S c b R rest' rest) u));
  }
    where
      still_not : (n : ℕ) (r : Row) → SettledHeld S.net c (only n) r
          → (r : Row) × SettledHeld S.net c (only n) r × (¬ (AllData S.net r)) → ¬ (AllData S.net r)
      still_not n r a x = subst (λ (r : Row). ¬ (AllData S.net r)) (held_one S c (only n) x.0 r x.1 a) x.2
