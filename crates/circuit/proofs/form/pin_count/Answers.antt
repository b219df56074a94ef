-- `circuit::form::pin_count` meets its contract. Assumes nothing.
use native.Mathlib.Omega.{arith}
use mathlib.Core.Path.{sym, ap, ◌∙◌}
use Rattle.gates.specs.Cell.{pin_count}
use Rattle.gates.proofs.Ranges.{pins_in_range, two_pins_holds, three_pins, four_pins_holds}
use Rattle.circuit.proofs.form.pin_count.Goals as goal

pub returns-then-cell-lt3 : goal.returns-then-cell-lt3
returns-then-cell-lt3 c =
    let f = c.cell_of-cell in
    record { is = sym (pins_in_range 1 2 2 two_pins_holds f.result f.ensures.low (omega arith)) ∙ ap pin_count f.ensures.is; some = omega arith; most = omega arith }

pub returns-then-cell-lt8 : goal.returns-then-cell-lt8
returns-then-cell-lt8 c =
    let f = c.cell_of-cell in
    record { is = sym (pins_in_range 3 5 3 three_pins f.result (omega arith) (omega arith)) ∙ ap pin_count f.ensures.is; some = omega arith; most = omega arith }

pub returns : goal.returns
returns c =
    let f = c.cell_of-cell in
    record { is = sym (pins_in_range 8 20 4 four_pins_holds f.result (omega arith) (omega (arith, f.ensures.high))) ∙ ap pin_count f.ensures.is; some = omega arith; most = omega arith }
