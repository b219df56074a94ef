-- `text_write::put_kind` meets its contract. Assumes nothing.
use native.Mathlib.Omega.{arith}
use mathlib.Core.Path.{refl, sym, ap, ◌∙◌}
use mathlib.Core.List.{[], ◌∷◌}
use lib.ListN.{length}
use Rattle.circuit.specs.Stage.{cell_in}
use Rattle.text_spec.specs.Characters.{cell_name}
use Rattle.write_decimal.proofs.Decimal.{next_same}
use Rattle.text_write.proofs.Loops.{text_all, text_room, text_put, text_last}
use Rattle.text_write.proofs.Names.{hold_name, relaxed_name}
use Rattle.text_write.proofs.put_kind.Goals as goal

pub put_cell-requires : goal.put_cell-requires
put_cell-requires c =
    let gate = c.requires.1.gate c.args.k c.requires.2 in
    let e = hold_name (cell_in c.args.code.now c.args.k) gate.high (sym c.has_hold.ensures ∙ c.if-has_hold.true) in
    rw c.cell_of-cell.ensures.is (c.requires.0, gate.low, gate.high, omega (arith, ap length e, c.requires.3))

pub returns-then-has_hold : goal.returns-then-has_hold
returns-then-has_hold c =
    let gate = c.requires.1.gate c.args.k c.requires.2 in
    next_same (hold_name (cell_in c.args.code.now c.args.k) gate.high (sym c.has_hold.ensures ∙ c.if-has_hold.true))
    (rw c.cell_of-cell.ensures.is at c.put_cell.ensures)

pub put_char-next-requires : goal.put_char-next-requires
put_char-next-requires c =
    let cell = cell_in c.args.code.now c.args.k in
    let e = relaxed_name cell (sym c.has_hold.ensures ∙ c.if-has_hold.false) in
    text_room (text_all c.args.work.now c.args.at (114 ∷ cell_name cell) (omega (arith, ap length e, c.requires.3))) (114 ∷ []) (cell_name cell) refl

pub put_cell-requires-2 : goal.put_cell-requires-2
put_cell-requires-2 c =
    let cell = cell_in c.args.code.now c.args.k in
    let gate = c.requires.1.gate c.args.k c.requires.2 in
    let e = relaxed_name cell (sym c.has_hold.ensures ∙ c.if-has_hold.false) in
    let t0 = text_all c.args.work.now c.args.at (114 ∷ cell_name cell) (omega (arith, ap length e, c.requires.3)) in
    let t1 = text_put t0 (114 ∷ []) (cell_name cell) refl c.put_char-next.ensures in
    rw c.cell_of-cell.ensures.is (c.requires.0, gate.low, gate.high, t1.left.room)

pub returns : goal.returns
returns c =
    let cell = cell_in c.args.code.now c.args.k in
    let e = relaxed_name cell
    (sym c.has_hold.ensures
    ∙ c.if-has_hold.false) in
    let t0 = text_all c.args.work.now c.args.at (114 ∷ cell_name cell) (omega (arith, ap length e, c.requires.3)) in
    let t1 = text_put t0 (114 ∷ []) (cell_name cell) refl c.put_char-next.ensures in
    next_same e (text_last t1 (rw c.cell_of-cell.ensures.is at c.put_cell-2.ensures))
