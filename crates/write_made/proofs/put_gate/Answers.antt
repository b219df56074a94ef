-- `write_made::put_gate` meets its contract. Assumes nothing.
use native.Mathlib.Omega.{arith}
use Prim.Native.Nat.{ℕ, ◌+◌, ◌*◌, ◌≤◌}
use mathlib.Core.Path.{refl, sym, ap, ap₂, ◌∙◌}
use mathlib.Core.List.{List}
use lib.ListN.{length, length-set}
use Rattle.netlist.specs.declared.File.TheVariants as file
use Rattle.netlist.specs.Writing.{gate}
use Rattle.make_spec.specs.Make.{Built, realize}
use Rattle.write_command.specs.Parts.{bytes_of}
use Rattle.circuit.specs.declared.form.Operands.{Operands}
use Rattle.circuit.specs.Reference.{operation_in, operand_in, operator_in}
use Rattle.write_made.specs.Rails.{pair_stored}
use Rattle.write_command.proofs.Putting.{put_same}
use Rattle.write_made.proofs.Operations.{not_gates, other_gates, one_operation, put_no_gate}
use Rattle.write_made.proofs.put_gate.Goals as goal

pub rails_of-a-requires : goal.rails_of-a-requires
rails_of-a-requires c =
    omega (arith, c.operands_of-operands.ensures.a_in, c.requires.2, c.requires.1)

pub rails_of-b-requires : goal.rails_of-b-requires
rails_of-b-requires c =
    omega (arith, c.operands_of-operands.ensures.b_in, c.requires.2, c.requires.1)

pub result_rails-result-requires : goal.result_rails-result-requires
result_rails-result-requires c =
    let op = c.operation_of-operation.ensures in
    (op.low, op.high, omega (arith, c.requires.0.within.inputs_in, c.requires.3))

pub bounds-rails-at-2 : goal.bounds-rails-at-2
bounds-rails-at-2 c =
    simp length-set (omega (arith, c.requires.1, c.requires.2))

pub returns-then-operation-eq1 : goal.returns-then-operation-eq1
returns-then-operation-eq1 c =
    let operands = c.operands_of-operands.ensures.is in
    let done = c.operation_of-operation in
    let same = done.ensures.is in
    let code = c.args.reference.now in
    let rails = c.args.rails.now in
    let k = c.args.k in
    let op = operation_in code k in
    let net = 2 * c.args.sizes.inputs + c.args.made in
    let is = ap₂ (λ (a b : List ℕ). realize done.result a b net)
    (c.rails_of-a.ensures ∙ ap (λ (o : Operands). pair_stored rails o.a) operands)
    (c.rails_of-b.ensures ∙ ap (λ (o : Operands). pair_stored rails o.b) operands)
    ∙ ap (λ (o : ℕ). realize o (pair_stored rails (operand_in code k 0)) (pair_stored rails (operand_in code k 1)) net) same in
    let none = not_gates op (pair_stored rails (operand_in code k 0)) (pair_stored rails (operand_in code k 1)) net (sym same ∙ c.if-operation-eq1.true) in
    record { count = omega (arith, ap length none); put = put_no_gate none; rails = (_, c.result_rails-result.ensures _ ∙ ap (λ (x : Built). x.rails) is, refl) }

pub put_operation-requires : goal.put_operation-requires
put_operation-requires c =
    let op = c.operation_of-operation.ensures in
    let k = c.args.k in (
      omega (arith, op.low, c.if-operation-eq1.false),
      op.high,
      omega (arith, c.requires.4, one_operation (operator_in c.args.reference.now k) (λ e. c.if-operation-eq1.false (op.is ∙ e))),
    )

pub returns : goal.returns
returns c =
    let operands = c.operands_of-operands.ensures.is in
    let done = c.operation_of-operation in
    let same = done.ensures.is in
    let code = c.args.reference.now in
    let rails = c.args.rails.now in
    let k = c.args.k in
    let op = operation_in code k in
    let net = 2 * c.args.sizes.inputs + c.args.made in
    let is = ap₂ (λ (a b : List ℕ). realize done.result a b net)
    (c.rails_of-a.ensures ∙ ap (λ (o : Operands). pair_stored rails o.a) operands)
    (c.rails_of-b.ensures ∙ ap (λ (o : Operands). pair_stored rails o.b) operands)
    ∙ ap (λ (o : ℕ). realize o (pair_stored rails (operand_in code k 0)) (pair_stored rails (operand_in code k 1)) net) same in
    let low : 2 ≤ op = omega (arith, c.requires.0.low k c.requires.1, same, c.if-operation-eq1.false) in record { count = omega (arith, other_gates op (pair_stored rails (operand_in code k 0)) (pair_stored rails (operand_in code k 1)) net low (c.requires.0.high k c.requires.1)); put = put_same (ap (λ (x : Built). bytes_of file.Stage gate x.gates) is) (c.put_operation.ensures _); rails = (_, c.result_rails-result.ensures _ ∙ ap (λ (x : Built). x.rails) is, refl) }
