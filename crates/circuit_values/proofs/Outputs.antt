-- All outputs pass a test exactly if none is the least that fails it.
-- Assumes nothing.
use Rattle.std.specs.Prelude.{Option, Some, None}
use Prim.Native.Nat.{ℕ, zero, suc, ◌<◌}
use native.Mathlib.Omega.{arith}
use mathlib.Core.Path.{◌≡◌, refl, sym, ap, ◌∙◌}
use mathlib.Core.Bool.{Bool, true, false, cond, not}
use mathlib.Core.List.{List}
use Rattle.netlist.specs.declared.Counts.{Counts}
use Rattle.netlist.specs.Content.{Pair}
use Rattle.verdict.specs.Rows.{DualRail, pair_in, every_pair}
use Rattle.verdict.specs.Search.{least}
use Rattle.verdict.proofs.Least.{least_says}
use Rattle.circuit.specs.Stage.{tabulate, output_in, stage_outputs}
use Rattle.circuit_values.specs.Failing.{output_fails}

not-not : (b c : Bool) → not b ≡ c → b ≡ not c
not-not true c e = ap not e
not-not false c e = ap not e

module _ (test : DualRail → Bool) (row : List ℕ) where
  each_passes : (f : ℕ → Pair) (m : ℕ) → ((j : ℕ) → j < m → not (test (pair_in row (f j))) ≡ false) → true ≡ every_pair test row (tabulate f m)
  unfolding tabulate every_pair
  each_passes f zero d = refl
  each_passes f (suc m) d = rw (not-not (test (pair_in row (f 0))) false (d 0 (omega arith))) (each_passes (λ i. f (suc i)) m (λ j h. d (suc j) (omega arith)))

  one_fails : (f : ℕ → Pair) (m j : ℕ) → j < m → not (test (pair_in row (f j))) ≡ true → false ≡ every_pair test row (tabulate f m)
  unfolding tabulate every_pair
  one_fails f zero j h e = absurd (omega arith)
  one_fails f (suc m) zero h e = rw (not-not (test (pair_in row (f 0))) true e)
  one_fails f (suc m) (suc j) h e = go (test (pair_in row (f 0))) (one_fails (λ i. f (suc i)) m j (omega arith) e)
    where
      go : (b : Bool) → false ≡ every_pair test row (tabulate (λ i. f (suc i)) m) → false ≡ cond b (every_pair test row (tabulate (λ i. f (suc i)) m)) false
      go true r = r
      go false r = refl

  module _ (c : Counts) (code : List ℕ) (x : Option ℕ) (is : x ≡ least (output_fails test c code row) 0 c.outputs) where
    pub all_pass : x ≡ None → true ≡ every_pair test row (stage_outputs c code)
    unfolding stage_outputs
    all_pass e =
        let f = least_says (output_fails test c code row) 0 c.outputs None (sym is ∙ e) in
        each_passes (output_in c code) c.outputs (λ j h. f j (omega arith) (omega arith))

    pub not_all_pass : (j : ℕ) → x ≡ Some j → false ≡ every_pair test row (stage_outputs c code)
    unfolding stage_outputs
    not_all_pass j e =
        let f = least_says (output_fails test c code row) 0 c.outputs (Some j) (sym is ∙ e) in
        one_fails (output_in c code) c.outputs j (omega (arith, f.below)) f.passes
