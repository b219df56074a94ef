-- `lane_cells::operator_lanes` meets its contract: in each lane the operation is on that lane's values. Assumes nothing.
use Prim.Native.Nat.{ℕ, ◌+◌}
use mathlib.Core.Path.{sym, ap, ap₂, ◌∙◌}
use mathlib.Core.List.{◌∷◌, []}
use Rattle.verdict.specs.Answers as answers
use Rattle.circuit.proofs.Values.{operator_is}
use Rattle.lane_cells.specs.Lane.{level_in, lane_of}
use Rattle.lane_cells.proofs.Blocks.{level_at}
use Rattle.lane_cells.proofs.operator_lanes.Goals as goal

pub returns : goal.returns
returns c j h =
    let values = c.args.values.now in
    let operation = c.operation_of in
    let operands = c.operands_of-operands in
    c.operate.ensures j h
    ∙ ap₂ (λ (a b : ℕ). answers.operate operation.result (a ∷ b ∷ [])) (ap (level_in j) c.lanes_at.ensures ∙ sym (level_at j values operands.result.a))
    (ap (level_in j) c.lanes_at-2.ensures ∙ sym (level_at j values operands.result.b))
    ∙ operator_is operation.result (c.args.sizes.inputs + c.args.k) (lane_of j values) _ _ operands.ensures.a_in operands.ensures.b_in
    ∙ rw (operation.ensures.is, operands.ensures.is)
