-- `circuit_load::load_parts` meets its contract. The loop's invariant, `PartsLeft`: putting the rows of the notes from i on gives both tables.
-- Assumes nothing.
use native.Mathlib.Omega.{arith}
use Rattle.circuit_load.proofs.Tables.{note_read, parts_room, parts_put, parts_done}
use Rattle.circuit_load.proofs.load_parts.Goals as goal

pub put_part-here-requires : goal.put_part-here-requires
put_part-here-requires c =
    let l = c.loop-note.invariant in
    let h = c.loop-note-test.true in
    let room = parts_room c.args.s.now c.args.notes.now l h in
    (note_read _ c.requires.0 h, omega (arith, c.requires.1, l.few_nets), omega (arith, c.requires.1, l.few_registers), room.0, room.1)

pub loop-note-preserved : goal.loop-note-preserved
loop-note-preserved c =
    let z = c.args in
    parts_put z.s.now z.notes.now c.loop-note.invariant c.loop-note-test.true c.put_part-here.ensures

pub returns : goal.returns
returns c = let done = parts_done c.args.s.now c.args.notes.now c.loop-note.invariant c.loop-note-test.false in record { nets = done.0; registers = done.1 }
