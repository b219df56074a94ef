-- What each of the checks finds in a word, by its name.
-- Assumes nothing.
use Rattle.std.specs.Prelude.{Option}
use Prim.Native.Nat.{ℕ}
use mathlib.Core.Path.{◌≡◌, sym, ap, ◌∙◌}
use mathlib.Core.List.{List}
use Rattle.netlist.specs.declared.Counts.{Counts}
use Rattle.netlist.specs.Content.{Stage, Reference}
use Rattle.verdict.specs.Checks.{wrong, incomplete, unobservable, fall_incomplete, fall_unobservable}
use Rattle.verdict.specs.Search.{least}
use Rattle.circuit.specs.Stage.{output_in, stage_outputs, stage_in}
use Rattle.circuit.proofs.Tabulate.{length_tabulate}
use Rattle.circuit.proofs.Settling.{length_stage_gates}
use Rattle.check_word.specs.declared.Sweep.{Sweep}
use Rattle.check_word.specs.declared.Sweep.TheVariants.{Wrong, Missing, Unobserved, Remaining, StillHigh}
use Rattle.check_word.specs.Finds.{finds}

module _ (c : Counts) (code : List ℕ) (r : Reference) (w : ℕ) (found : Option ℕ) (which : Sweep) where
  abbrev s : Stage
  s = stage_in c code

  pub found_wrong : found ≡ least (wrong s r w) 0 c.outputs → which ≡ Wrong → found ≡ finds which s r w
  unfolding stage_outputs
  found_wrong e k = e ∙ ap (least (wrong s r w) 0) (sym (length_tabulate (output_in c code) c.outputs)) ∙ ap (λ (x : Sweep). finds x s r w) (sym k)

  pub found_missing : found ≡ least (incomplete s w) 0 c.inputs → which ≡ Missing → found ≡ finds which s r w
  found_missing e k = e ∙ ap (λ (x : Sweep). finds x s r w) (sym k)

  pub found_unobserved : found ≡ least (unobservable s w) 0 c.gates → which ≡ Unobserved → found ≡ finds which s r w
  found_unobserved e k = e ∙ ap (least (unobservable s w) 0) (sym (length_stage_gates c code)) ∙ ap (λ (x : Sweep). finds x s r w) (sym k)

  pub found_remaining : found ≡ least (fall_incomplete s w) 0 c.inputs → which ≡ Remaining → found ≡ finds which s r w
  found_remaining e k = e ∙ ap (λ (x : Sweep). finds x s r w) (sym k)

  pub found_still_high : found ≡ least (fall_unobservable s w) 0 c.gates → which ≡ StillHigh → found ≡ finds which s r w
  found_still_high e k = e ∙ ap (least (fall_unobservable s w) 0) (sym (length_stage_gates c code)) ∙ ap (λ (x : Sweep). finds x s r w) (sym k)
