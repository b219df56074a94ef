-- `call_draw::draw_gate` meets its contract. Assumes nothing.
use Rattle.call_draw.proofs.Draws.{drawn_one, drawn_two}
use Rattle.call_draw.proofs.draw_gate.Goals as goal

pub returns-then-operation-eq1 : goal.returns-then-operation-eq1
returns-then-operation-eq1 c =
    let y = c.yielded-operation.ensures in
    let z = c.yielded-first.ensures in
    drawn_one _ _ _ _ _ _ c.advance-one.ensures y.0 c.advance-two.ensures z.0 z.1 c.if-operation-eq1.true

pub returns : goal.returns
returns c =
    let y = c.yielded-operation.ensures in
    let z = c.yielded-first.ensures in
    let x = c.yielded-second.ensures in
    drawn_two _ _ _ _ _ _ c.advance-one.ensures y.0
    c.advance-two.ensures z.0 z.1 _ _
    c.advance-three.ensures x.0 x.1 y.1 c.if-operation-eq1.false
