-- `family::two_free` meets its contract. Assumes nothing.
use Rattle.call_next.proofs.Pins.{free_first, free_second, free_each, free_none}
use Rattle.call_next.proofs.two_free.Goals as goal

pub returns-then-has_pin : goal.returns-then-has_pin
returns-then-has_pin c = let a = c.args in free_first a.inputs a.a a.b _ c.has_pin.ensures c.if-has_pin.true

pub returns-then-has_pin-2 : goal.returns-then-has_pin-2
returns-then-has_pin-2 c =
    let a = c.args in
    free_second a.inputs a.a a.b _ c.has_pin.ensures c.if-has_pin.false _ c.has_pin-2.ensures
    c.if-has_pin-2.true

pub returns-then-has_pin-3 : goal.returns-then-has_pin-3
returns-then-has_pin-3 c =
    let a = c.args in
    free_each a.inputs a.a a.b _ c.has_pin.ensures
    c.if-has_pin.false _
    c.has_pin-2.ensures c.if-has_pin-2.false _ c.has_pin-3.ensures
    c.if-has_pin-3.true _ c.has_pin-then-has_pin-3.ensures

pub returns : goal.returns
returns c =
    let a = c.args in
    free_none a.inputs a.a a.b _ c.has_pin.ensures c.if-has_pin.false _
    c.has_pin-2.ensures c.if-has_pin-2.false _ c.has_pin-3.ensures c.if-has_pin-3.false
