-- `circuit_load::operator_number` meets its contract. Assumes nothing.
use mathlib.Core.Path.{◌∙◌}
use Rattle.circuit_load.proofs.Numbers.{number_operation, number_first, number_again, number_second}
use Rattle.circuit_load.proofs.operator_number.Goals as goal

pub returns-then-j-eq0 : goal.returns-then-j-eq0
returns-then-j-eq0 c = let z = c.args in number_operation z.s.now z.at z.j c.if-j-eq0.true

pub returns-then-j-eq1 : goal.returns-then-j-eq1
returns-then-j-eq1 c =
    let z = c.args in
    c.operand.ensures ∙ number_first z.s.now z.at z.j c.if-j-eq1.true

pub returns-then-operation-eq1 : goal.returns-then-operation-eq1
returns-then-operation-eq1 c =
    let z = c.args in
    c.operand-then-operation-eq1.ensures ∙ number_again z.s.now z.at z.j c.if-j-eq0.false c.if-j-eq1.false
    c.if-operation-eq1.true

pub returns : goal.returns
returns c =
    let z = c.args in
    c.operand-2.ensures ∙ number_second z.s.now z.at z.j c.if-j-eq0.false c.if-j-eq1.false
    c.if-operation-eq1.false
