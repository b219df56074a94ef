-- `circuit_values::operator_value` meets its contract. Assumes nothing.
use Prim.Native.Nat.{ℕ, ◌+◌}
use mathlib.Core.Path.{ap₂, ◌∙◌}
use mathlib.Core.List.{◌∷◌, []}
use Rattle.verdict.specs.Answers as answers
use Rattle.circuit.proofs.Values.{operator_is}
use Rattle.circuit_values.proofs.operator_value.Goals as goal

pub returns : goal.returns
returns c =
    let operation = c.operation_of in
    let operands = c.operands_of-operands in (
      c.operate.ensures.0 ∙ ap₂ (λ (a b : ℕ). answers.operate operation.result (a ∷ b ∷ [])) c.level.ensures.is c.level-2.ensures.is
          ∙ operator_is operation.result (c.args.sizes.inputs + c.args.k) c.args.values.now _ _ operands.ensures.a_in operands.ensures.b_in
          ∙ rw (operation.ensures.is, operands.ensures.is),
      c.operate.ensures.1,
    )
