-- `family::write_number` meets its contract. Assumes nothing.
use native.Mathlib.Omega.{arith}
use Rattle.call_next.proofs.Calling.{number_short, number_fits}
use Rattle.call_next.proofs.write_number.Goals as goal

pub returns-then-buffer-size : goal.returns-then-buffer-size
returns-then-buffer-size c =
    let a = c.args in
    number_short a.inputs a.gates a.number c.requires a.buffer.now c.if-buffer-size.true c.refused_by.ensures

pub returns : goal.returns
returns c =
    let a = c.args in
    number_fits a.inputs a.gates a.number c.requires a.buffer.now (omega (arith, c.if-buffer-size.false))
    c.write_stage.ensures c.wrote.ensures
