-- 13: which outputs the reference's values find wrong.
-- Assumes nothing.
use Rattle.std.specs.Prelude.{Option}
use Prim.Native.Nat.{ℕ, zero, suc, ◌+◌, ◌≤◌, ◌<◌}
use native.Mathlib.Omega.{arith}
use mathlib.Core.Path.{◌≡◌, refl, sym, ap, ap₂, ◌∙◌}
use mathlib.Core.Bool.{Bool, not}
use mathlib.Core.List.{List}
use lib.ListN.{get_or, take}
use lib.Seq.{get_or-take}
use Rattle.netlist.specs.declared.Counts.{Counts}
use Rattle.netlist.specs.Content.{Pair}
use Rattle.verdict.specs.Words.{numbers, bits_of, rails_in}
use Rattle.verdict.specs.Rows.{settled, pair_in, spells}
use Rattle.verdict.specs.Answers.{answer, signal_values}
use Rattle.verdict.specs.Nets.{output_pair, no_pair}
use Rattle.verdict.specs.Checks.{first, wrong}
use Rattle.verdict.specs.Search.{least}
use Rattle.circuit.specs.Stage.{stage_gates, output_in, stage_outputs, stage_in}
use Rattle.circuit.specs.Reference.{operators_in, signal_in, signals_in, reference_in, ReferenceLoaded}
use Rattle.circuit.proofs.Tabulate.{get_d_tabulate, map_tabulate}
use Rattle.circuit_values.specs.Failing.{misread}
use Rattle.words.proofs.Spelling.{bits_prefix}

-- tests that agree have the same least number
least-alike : (f g : ℕ → Bool) (j m : ℕ) → ((k : ℕ) → k < j + m → f k ≡ g k) → least f j m ≡ least g j m
unfolding first numbers
least-alike f g j zero h = refl
least-alike f g j (suc m) h = simp (h j (omega arith), least-alike f g (suc j) m (λ k l. h k (omega arith)))

module _ (c : Counts) (code : List ℕ) (sizes : Counts) (reference : List ℕ) (w : ℕ) (loaded : ReferenceLoaded sizes reference)
    (enough : c.outputs ≤ sizes.outputs) where
  pair_at_holds : (j : ℕ) → j < c.outputs → output_pair (stage_in c code) j ≡ output_in c code j
  unfolding stage_outputs
  pair_at_holds j h = get_d_tabulate (output_in c code) c.outputs j no_pair h

  answer_at : (bits : List ℕ) (j : ℕ) → j < sizes.outputs → get_or (answer (reference_in sizes reference) bits) j 0 ≡ get_or
      (signal_values bits (operators_in sizes reference)) (signal_in sizes reference j) 0
  unfolding answer signals_in
  answer_at bits j h =
      let value : ℕ → ℕ = λ v. get_or (signal_values bits (operators_in sizes reference)) v 0 in
      ap (λ (l : List ℕ). get_or l j 0) (map_tabulate value (signal_in sizes reference) sizes.outputs)
      ∙ get_d_tabulate (λ i. value (signal_in sizes reference i)) sizes.outputs j 0 h

  pub wrong_word : (nets values bits : List ℕ) (found : Option ℕ) → nets ≡ settled (stage_gates c code) (rails_in (stage_in c code) w) → (long : ℕ) →
      bits ≡ bits_of long w → sizes.inputs ≤ long →
      take (sizes.inputs + sizes.gates) values ≡ signal_values (take sizes.inputs bits) (operators_in sizes reference) →
      found ≡ least (misread c code nets (λ j. get_or values (signal_in sizes reference j) 0)) 0 c.outputs → found ≡ least
      (wrong (stage_in c code) (reference_in sizes reference) w) 0 c.outputs
  unfolding wrong
  wrong_word nets values bits found en long eb few ev ef =
      ef ∙ least-alike _ _ 0 c.outputs (λ j h.
      ap₂ (λ (p : Pair) (v : ℕ). not (spells (pair_in nets p) v)) (sym (pair_at_holds j (omega arith)))
      (sym (get_or-take (sizes.inputs + sizes.gates) values (signal_in sizes reference j) 0 (loaded.signal j (omega arith)))
      ∙ ap (λ (l : List ℕ). get_or l (signal_in sizes reference j) 0)
      (ev ∙ ap (λ (l : List ℕ). signal_values l (operators_in sizes reference)) (ap (take sizes.inputs) eb ∙ bits_prefix sizes.inputs long w few))
      ∙ sym (answer_at (bits_of sizes.inputs w) j (omega arith)))
      ∙ ap (λ (l : List ℕ). not (spells (pair_in l (output_pair (stage_in c code) j))
      (get_or (answer (reference_in sizes reference) (bits_of sizes.inputs w)) j 0))) en)
