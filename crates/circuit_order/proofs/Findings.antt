-- What a check without words finds, that of 12 among them, and how a list of checks goes on after one.
-- Assumes nothing.
use Rattle.std.specs.Prelude.{Option, Some, None, Ok, Err}
use Prim.Native.Nat.{ℕ}
use mathlib.Core.Path.{◌≡◌, refl, ap, ◌∙◌}
use mathlib.Core.List.{List, [], ◌∷◌}
use Rattle.netlist.specs.declared.Counts.{Counts}
use Rattle.verdict.specs.declared.Verdict.{Verdict}
use Rattle.verdict.specs.FourNumbers.{Finding}
use Rattle.verdict.specs.Checks.{verdict, Check, first, at_fault, sweep, finding, or_later, looped}
use Rattle.circuit.specs.Stage.{stage_in}
use Rattle.circuit_order.specs.Marks.{LoopFound}

-- where a check finds nothing those after it decide; where it finds a fault, that is it
pub passed_on : (f later : Finding) → f ≡ Ok tt → or_later f later ≡ later
unfolding or_later
passed_on f later e = ap (λ (x : Finding). or_later x later) e

pub faulty : (f later : Finding) (v : Verdict) → f ≡ Err v → or_later f later ≡ Err v
unfolding or_later
faulty f later v e = ap (λ (x : Finding). or_later x later) e

-- a check that has no words looks once: its fault is the first place that fails
module _ (c : Check) (once : c.words ≡ 0 ∷ []) (found : Option ℕ) (is : found ≡ first (c.fails 0) c.places) where
  looks_once : finding c ≡ at_fault c.number c.file 0 found (Ok tt)
  unfolding finding sweep
  looks_once = rw (once, is)

  pub found_at : (i : ℕ) → found ≡ Some i → finding c ≡ Err (verdict c.number c.file i 0)
  unfolding at_fault
  found_at i e = looks_once ∙ ap (λ (f : Option ℕ). at_fault c.number c.file 0 f (Ok tt)) e

  pub found_nothing : found ≡ None → finding c ≡ Ok tt
  unfolding at_fault
  found_nothing e = looks_once ∙ ap (λ (f : Option ℕ). at_fault c.number c.file 0 f (Ok tt)) e

module _ (c : Counts) (code after : List ℕ) (found : Option ℕ) (l : LoopFound c code after found) where
  pub loop-at : (g : ℕ) → found ≡ Some g → finding (looped (stage_in c code)) ≡ Err (verdict 12 1 g 0)
  loop-at = found_at (looped (stage_in c code)) refl found l.least_loop

  pub no_loop : found ≡ None → finding (looped (stage_in c code)) ≡ Ok tt
  no_loop = found_nothing (looped (stage_in c code)) refl found l.least_loop
