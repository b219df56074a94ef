-- The least gate that reaches itself, by the order that was made: where all gates are placed there is none.
-- Assumes nothing.
use Rattle.std.specs.Prelude.{Option, None}
use Prim.Native.Nat.{ℕ, zero, suc, ◌+◌, ◌≤◌, ◌<◌}
use native.Mathlib.Omega.{arith}
use mathlib.Core.Path.{◌≡◌, refl, sym, ap, ◌∙◌}
use mathlib.Core.Bool.{Bool, false}
use mathlib.Core.List.{List}
use lib.ListN.{length}
use Rattle.netlist.specs.declared.Counts.{Counts}
use Rattle.netlist.specs.Content.{Gate}
use Rattle.verdict.specs.Loops.{reaches_itself}
use Rattle.verdict.specs.Words.{numbers}
use Rattle.verdict.specs.Checks.{first}
use Rattle.verdict.specs.Search.{least}
use Rattle.verdict.proofs.Least.{least_later, least_says}
use Rattle.circuit.specs.Stage.{stage_gates}
use Rattle.circuit.proofs.Settling.{length_stage_gates}
use Rattle.circuit_order.specs.Placing.{Ordered}
use Rattle.circuit_order.specs.Marks.{LoopFound}
use Rattle.circuit.specs.Form.{Reordered}
use Rattle.circuit.proofs.Reordering.{gates_kept, stage_kept}

-- where no number passes there is no least
none_least : (f : ℕ → Bool) (j m : ℕ) → ((k : ℕ) → j ≤ k → k < j + m → f k ≡ false) → least f j m ≡ None
unfolding first numbers
none_least f j zero h = refl
none_least f j (suc m) h = least_later f j m (h j (omega arith) (omega arith)) ∙ none_least f (suc j) m (λ k l b. h k (omega arith) (omega arith))

module _ (c : Counts) (before code : List ℕ) (r : Reordered c before code) (placed : ℕ) (o : Ordered c code placed) where
  abbrev least_in : List Gate → Option ℕ
  least_in gates = least (reaches_itself c.inputs gates) 0 (length gates)

  abbrev test : ℕ → Bool
  test = reaches_itself c.inputs (stage_gates c code)

  pub found_none : placed ≡ c.gates → LoopFound c before code None
  found_none e = record {
    loaded = o.loaded;
    same = stage_kept c before code r;
    least_loop = sym (none_least test 0 (length (stage_gates c code)) (λ k l b. (o.all e).1 k (omega arith))) ∙ ap least_in (gates_kept c before code r);
    in_order = λ q. (o.all e).0;
  }

  pub found_some : ¬ (placed ≡ c.gates) → (found : Option ℕ) → found ≡ least test 0 c.gates → LoopFound c before code found
  found_some d found e = record {
    loaded = o.loaded;
    same = stage_kept c before code r;
    least_loop = f ∙ ap least_in (gates_kept c before code r);
    in_order = λ q. absurd (o.some d (λ g h. least_says test 0 (length (stage_gates c code)) None (sym f ∙ q) g (omega arith) (omega arith)));
  }
    where
      f : found ≡ least_in (stage_gates c code)
      f = e ∙ ap (least test 0) (sym (length_stage_gates c code))
