-- `circuit_load::put_part` meets its contract. Assumes nothing.
use native.Mathlib.Omega.{arith}
use Rattle.circuit_load.proofs.Tables.{note_room, element_room, element_rows, element_put, register_rows_holds, register_put}
use Rattle.circuit_load.proofs.put_part.Goals as goal

pub operand-a-requires : goal.operand-a-requires
operand-a-requires c = omega (arith, note_room _ _ c.requires.0)

pub operand-b-requires : goal.operand-b-requires
operand-b-requires c = omega (arith, note_room _ _ c.requires.0)

pub operand-c-requires : goal.operand-c-requires
operand-c-requires c = omega (arith, note_room _ _ c.requires.0)

pub operand-d-requires : goal.operand-d-requires
operand-d-requires c = omega (arith, element_room _ _ c.if-note-eq1.true c.requires.0)

-- ---- a C-element

pub put_net-requires : goal.put_net-requires
put_net-requires c =
    omega (arith, element_rows _ _ c.args.first c.args.here c.if-note-eq1.true c.requires.0, c.requires.3)

pub returns-then-note-eq1 : goal.returns-then-note-eq1
returns-then-note-eq1 c =
    element_put _ _ _ _ c.if-note-eq1.true c.requires.0 c.operand-a.ensures c.operand-b.ensures c.operand-c.ensures
    c.operand-d.ensures c.put_net.ensures

-- ---- a register

pub put_net-requires-2 : goal.put_net-requires-2
put_net-requires-2 c =
    omega (arith, register_rows_holds _ _ c.args.first c.args.here c.if-note-eq1.false c.requires.0, c.requires.3)

pub put_net-requires-3 : goal.put_net-requires-3
put_net-requires-3 c =
    omega (arith, register_rows_holds _ _ c.args.first c.args.here c.if-note-eq1.false c.requires.0, c.requires.3, c.put_net-2.ensures.long)

pub put_net-requires-4 : goal.put_net-requires-4
put_net-requires-4 c =
    omega (
      arith,
      register_rows_holds _ _ c.args.first c.args.here c.if-note-eq1.false c.requires.0,
      c.requires.3,
      c.put_net-2.ensures.long,
      c.put_net-3.ensures.long,
    )

pub put_register-requires : goal.put_register-requires
put_register-requires c =
    omega (arith, register_rows_holds _ _ c.args.first c.args.here c.if-note-eq1.false c.requires.0, c.requires.4)

pub returns : goal.returns
returns c =
    register_put _ _ _ _ c.if-note-eq1.false c.requires.0 c.operand-a.ensures c.operand-b.ensures c.operand-c.ensures
    c.put_net-2.ensures c.put_net-3.ensures c.put_net-4.ensures c.put_register.ensures
