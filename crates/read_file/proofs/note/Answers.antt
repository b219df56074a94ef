-- `read_file::note` meets its contract, sort by sort. Assumes nothing.
use native.Mathlib.Omega.{arith}
use mathlib.Core.Path.{refl}
use Rattle.read_file.specs.Files.{RoomOf}
use Rattle.read_file.proofs.Noting.{notable_as, noted_inputs, noted_gate, noted_output, noted_register, noted_element, noted_care, noted_other}
use Rattle.read_file.proofs.note.Goals as goal

pub bounds-s-at : goal.bounds-s-at
unfolding RoomOf
bounds-s-at c =
    let room = notable_as c.in-Inputs.is c.requires in
    omega (arith, room.more)

pub bounds-places-most-in-Register : goal.bounds-places-most-in-Register
unfolding RoomOf
bounds-places-most-in-Register c =
    let room = notable_as c.in-Register.is c.requires in
    omega (arith, room.more, room.space)

pub bounds-places-most-in-Element : goal.bounds-places-most-in-Element
unfolding RoomOf
bounds-places-most-in-Element c =
    let room = notable_as c.in-Element.is c.requires in
    omega (arith, room.more, room.space)

pub operand-w-requires : goal.operand-w-requires
unfolding RoomOf
operand-w-requires c =
    let room = notable_as c.in-Care.is c.requires in
    omega (arith, room.more)

pub overflow_add-places-in-Care-3 : goal.overflow_add-places-in-Care-3
unfolding RoomOf
overflow_add-places-in-Care-3 c =
    let room = notable_as c.in-Care.is c.requires in
    omega (arith, room.more, c.well_formed)

pub offset_bounds-places-most-in-Care : goal.offset_bounds-places-most-in-Care
unfolding RoomOf
offset_bounds-places-most-in-Care c =
    let room = notable_as c.in-Care.is c.requires in
    omega (arith, room.more, c.well_formed)

pub bounds-places-most-in-Care : goal.bounds-places-most-in-Care
unfolding RoomOf
bounds-places-most-in-Care c =
    let room = notable_as c.in-Care.is c.requires in
    omega (arith, room.more, c.well_formed)

pub overflow_add-after-in-Care : goal.overflow_add-after-in-Care
unfolding RoomOf
overflow_add-after-in-Care c =
    let room = notable_as c.in-Care.is c.requires in
    omega (arith, room.more, c.well_formed)

pub returns-in-Inputs : goal.returns-in-Inputs
returns-in-Inputs c = rw c.in-Inputs.is (noted_inputs _ _ _ _ _ refl)

pub returns-in-Gate : goal.returns-in-Gate
returns-in-Gate c =
    let room = notable_as c.in-Gate.is c.requires in
    rw c.in-Gate.is (noted_gate _ _ _ _ _ room)

pub returns-in-Output : goal.returns-in-Output
returns-in-Output c =
    let room = notable_as c.in-Output.is c.requires in
    rw c.in-Output.is (noted_output _ _ _ _ _ room)

pub returns-in-Register : goal.returns-in-Register
returns-in-Register c =
    let room = notable_as c.in-Register.is c.requires in
    rw c.in-Register.is (noted_register _ _ _ _ _ room)

pub returns-in-Element : goal.returns-in-Element
returns-in-Element c =
    let room = notable_as c.in-Element.is c.requires in
    rw c.in-Element.is (noted_element _ _ _ _ _ room)

pub returns-in-Care : goal.returns-in-Care
returns-in-Care c =
    let room = notable_as c.in-Care.is c.requires in
    rw c.in-Care.is (noted_care _ _ _ _ _ room c.operand-w.ensures)

pub returns-in-End : goal.returns-in-End
returns-in-End c = noted_other _ _ _ _ _ _ c.in-End.is
