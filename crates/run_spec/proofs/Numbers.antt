-- The run that the witness of a verdict is, by the verdict's number.
-- Assumes nothing.
use Prim.Native.Nat.{ℕ, ◌+◌, ◌*◌, ◌≤◌}
use native.Mathlib.Omega.{arith}
use mathlib.Core.Path.{◌≡◌, ap, ap₂, ◌∙◌}
use mathlib.Core.Bool.{Bool, true, false, cond}
use mathlib.Core.List.{List, []}
use lib.ListN.{length, length-append}
use lib.Dec.{eqb}
use borrow.Author.Tests.{eq-eqb, ne_eqb}
use Rattle.runs.specs.Row.{Row, low, only, after}
use Rattle.runs.specs.Net.{Net, nets, rails_of_inputs}
use Rattle.verdict.specs.declared.Verdict.{Verdict}
use Rattle.check_spec.specs.Lists.{some}
use Rattle.check_spec.specs.Content.{Content}
use Rattle.check_spec.specs.Rows.{net_of}
use Rattle.check_spec.specs.Words.{rails_for}
use Rattle.run_spec.specs.Played.{Run, rise_by, fall_by, switchings}
use Rattle.run_spec.specs.Witness.{of_runs, of_falls, held_back, witness_run}
use Rattle.run_spec.proofs.Played.{played_few}

-- nets are their own keys
abbrev pub self : ℕ → ℕ
self k = k

-- a number that is known
pub known : (l : List ℕ) (b : Bool) (n : ℕ) → some (eqb n) l ≡ b → (x : ℕ) → x ≡ n → some (eqb x) l ≡ b
known l b n e x p = ap (λ (y : ℕ). some (eqb y) l) p ∙ e

-- ---- the run by the verdict's number

module _ (s : Content) (v : Verdict) where
  pub held_input : (a b : ℕ) → v.number ≡ a → held_back s v a b ≡ rails_of_inputs (net_of s) (only v.at)
  unfolding held_back
  held_input a b e = rw (eq-eqb v.number a e)

  pub held_gate : (a b : ℕ) → ¬ (v.number ≡ a) → v.number ≡ b → held_back s v a b ≡ only (2 * s.inputs + v.at)
  unfolding held_back
  held_gate a b d e = rw (ne_eqb v.number a d, eq-eqb v.number b e)

  pub held_none : (a b : ℕ) → ¬ (v.number ≡ a) → ¬ (v.number ≡ b) → held_back s v a b ≡ low
  unfolding held_back
  held_none a b d e = rw (ne_eqb v.number a d, ne_eqb v.number b e)

  module _ (w : ℕ) where
    abbrev N : Net
    N = net_of s

    abbrev run : Run
    run = witness_run s v w

    abbrev rise : List ℕ
    rise = rise_by self N (rails_for w) (held_back s v 14 15)

    abbrev fall : List ℕ
    fall = fall_by self N (after low rise) (held_back s v 20 21)

    -- with X held back in the rise and Y in the fall
    module _ (n : ℕ) (e : v.number ≡ n) (X Y : Row) (x : held_back s v 14 15 ≡ X) (y : held_back s v 20 21 ≡ Y) where
      pub rise_is : some (eqb n) of_runs ≡ true → run.rise ≡ rise_by self N (rails_for w) X
      unfolding witness_run
      rise_is h =
          ap (λ (m : ℕ). cond (some (eqb m) of_runs) rise []) e ∙ ap (λ (b : Bool). cond b rise []) h ∙ ap (rise_by self N (rails_for w)) x

      pub fall_is : some (eqb n) of_falls ≡ true → run.fall ≡ fall_by self N (after low (rise_by self N (rails_for w) X)) Y
      unfolding witness_run
      fall_is h =
          ap (λ (m : ℕ). cond (some (eqb m) of_falls) fall []) e ∙ ap (λ (b : Bool). cond b fall []) h
          ∙ ap₂ (λ (X Y : Row). fall_by self N (after low (rise_by self N (rails_for w) X)) Y) x y

    pub rise_none : (n : ℕ) → v.number ≡ n → some (eqb n) of_runs ≡ false → run.rise ≡ []
    unfolding witness_run
    rise_none n e h = ap (λ (m : ℕ). cond (some (eqb m) of_runs) rise []) e ∙ ap (λ (b : Bool). cond b rise []) h

    pub fall_none : (n : ℕ) → v.number ≡ n → some (eqb n) of_falls ≡ false → run.fall ≡ []
    unfolding witness_run
    fall_none n e h = ap (λ (m : ℕ). cond (some (eqb m) of_falls) fall []) e ∙ ap (λ (b : Bool). cond b fall []) h

    -- each net stands at most once in the rise, and in the fall
    part_few : (b : Bool) (l : List ℕ) → length l ≤ nets N → length (cond b l []) ≤ nets N
    part_few true l h = h
    part_few false l h = omega arith

    pub run_few : length (switchings run) ≤ 2 * nets N
    unfolding witness_run
    run_few =
        let a = some (eqb v.number) of_runs in
        let b = some (eqb v.number) of_falls in
        omega (
          arith,
          length-append (cond a rise []) (cond b fall []),
          part_few a rise (played_few _ self (nets N) (nets N) low),
          part_few b fall (played_few _ self (nets N) (nets N) (after low rise)),
        )
