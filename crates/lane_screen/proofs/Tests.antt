-- A check finds nothing in a word in which its rows do not say what it looks for.
-- Assumes nothing.
use Rattle.std.specs.Prelude.{None}
use Prim.Native.Nat.{ℕ, zero, suc, ◌+◌, ◌*◌, ◌≤◌, ◌<◌}
use native.Mathlib.Omega.{arith}
use mathlib.Core.Path.{◌≡◌, refl, ap, ◌∙◌}
use mathlib.Core.Bool.{Bool, true, false, cond, not}
use mathlib.Core.List.{List, [], ◌∷◌}
use lib.ListN.{length, get_or}
use Rattle.runs.specs.Pair.{Reads, AllData, AllNull}
use Rattle.runs.proofs.Test.{clash, not-true}
use Rattle.netlist.specs.Content.{Pair, Stage, Reference}
use Rattle.verdict.specs.Rows.{high, settled, DualRail, pair_in, is_data, is_null, every_pair, all_data, all_null}
use Rattle.verdict.specs.Search.{least}
use Rattle.verdict.specs.Words.{numbers, bits_of, rails_in}
use Rattle.verdict.specs.Answers.{answer}
use Rattle.verdict.specs.Nets.{no_pair, output_pair, net_of, row_of, answer_bits, rest_row, missing_row, held_row}
use Rattle.verdict.specs.Falls.{fallen_but, fallen_keeping}
use Rattle.verdict.specs.Checks as checks
use Rattle.verdict.proofs.Words.{bits_of_bit, answer_bit}
use Rattle.verdict.proofs.Least.{least_later}
use Rattle.verdict.proofs.Bridge.{data_in, null_in, spells_out}
use Rattle.check_word.specs.declared.Sweep.TheVariants.{Wrong, Missing, Unobserved, Remaining, StillHigh}
use Rattle.check_word.specs.Finds.{finds}

none_from : (f : ℕ → Bool) (j m : ℕ) → ((i : ℕ) → j ≤ i → i < j + m → f i ≡ false) → least f j m ≡ None
unfolding numbers checks.first
none_from f j zero h = refl
none_from f j (suc m) h = least_later f j m (h j (omega arith) (omega arith)) ∙ none_from f (suc j) m (λ i a b. h i (omega arith) (omega arith))

none : (f : ℕ → Bool) (n : ℕ) → ((i : ℕ) → i < n → f i ≡ false) → least f 0 n ≡ None
none f n h = none_from f 0 n (λ i a b. h i (omega arith))

every_out : (test : DualRail → Bool) (row : List ℕ) (pairs : List Pair) → every_pair test row pairs ≡ true → (j : ℕ) → j < length pairs → test (pair_in row (get_or pairs j no_pair)) ≡ true
unfolding every_pair
every_out test row [] e j h = absurd (omega arith)
every_out test row (p ∷ pairs) e j h = go (test (pair_in row p)) refl e (every_out test row pairs) j h
  where
    go : (b : Bool) → test (pair_in row p) ≡ b → cond b (every_pair test row pairs) false ≡ true
        → (every_pair test row pairs ≡ true → (j : ℕ) → j < length pairs → test (pair_in row (get_or pairs j no_pair)) ≡ true)
        → (j : ℕ) → j < suc (length pairs) → test (pair_in row (get_or (p ∷ pairs) j no_pair)) ≡ true
    go true q e later zero h = q
    go true q e later (suc j) h = later e j (omega arith)
    go false q e later j h = absurd (clash e refl)

module _ (s : Stage) (r : Reference) (w : ℕ) where
  no_data : (row : List ℕ) → ¬ (AllData (net_of s) (row_of row)) → all_data row s.outputs ≡ false
  no_data row n = not-true _ (λ e. n (λ j h. data_in row (output_pair s j) (every_out is_data row s.outputs e j h)))

  no_null : (row : List ℕ) → ¬ (AllNull (net_of s) (row_of row)) → all_null row s.outputs ≡ false
  no_null row n = not-true _ (λ e. n (λ j h. null_in row (output_pair s j) (every_out is_null row s.outputs e j h)))

  -- a gate that is high, and a test
  high-and : (g : ℕ) (test : Bool) → (rest_row s w (2 * s.inputs + g) ≡ true → test ≡ false)
      → (elim (high (settled s.gates (rails_in s w)) (2 * s.inputs + g)) as (λ b. Bool) [ true ↦ test | false ↦ false ]) ≡ false
  high-and g test h = go (high (settled s.gates (rails_in s w)) (2 * s.inputs + g)) refl
    where
      go : (b : Bool) → high (settled s.gates (rails_in s w)) (2 * s.inputs + g) ≡ b → (elim b as (λ b. Bool) [ true ↦ test | false ↦ false ]) ≡ false
      go true e = h e
      go false e = refl

  pub finds_no_wrong : Reads (net_of s) (rest_row s w) (answer_bits r w) → finds Wrong s r w ≡ None
  unfolding checks.wrong
  finds_no_wrong reads = none (checks.wrong s r w) (length s.outputs) (λ j h. ap not
      (spells_out (settled s.gates (rails_in s w)) (output_pair s j) (get_or (answer r (bits_of r.inputs w)) j 0) (answer_bit r (bits_of r.inputs w) (bits_of_bit r.inputs w) j) (reads j h)))

  pub finds_no_missing : ((i : ℕ) → i < s.inputs → ¬ (AllData (net_of s) (missing_row s w i))) → finds Missing s r w ≡ None
  unfolding checks.incomplete
  finds_no_missing n = none (checks.incomplete s w) s.inputs (λ i h. no_data _ (n i h))

  pub finds_no_unobserved : ((g : ℕ) → g < length s.gates → rest_row s w (2 * s.inputs + g) ≡ true → ¬ (AllData (net_of s) (held_row s w g))) → finds Unobserved s r w ≡ None
  unfolding checks.unobservable
  finds_no_unobserved n = none (checks.unobservable s w) (length s.gates) (λ g h. high-and g _ (λ u. no_data _ (n g h u)))

  pub finds_no_remaining : ((i : ℕ) → i < s.inputs → ¬ (AllNull (net_of s) (row_of (fallen_but s w i)))) → finds Remaining s r w ≡ None
  unfolding checks.fall_incomplete
  finds_no_remaining n = none (checks.fall_incomplete s w) s.inputs (λ i h. no_null _ (n i h))

  pub finds_no_still_high : ((g : ℕ) → g < length s.gates → rest_row s w (2 * s.inputs + g) ≡ true → ¬ (AllNull (net_of s) (row_of (fallen_keeping s w g)))) → finds StillHigh s r w ≡ None
  unfolding checks.fall_unobservable
  finds_no_still_high n = none (checks.fall_unobservable s w) (length s.gates) (λ g h. high-and g _ (λ u. no_null _ (n g h u)))
