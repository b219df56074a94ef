-- `read_file::top_after` meets its contract, by its arms. Assumes nothing.
use native.Mathlib.Omega.{arith}
use Rattle.read_file.proofs.Tops.{stands_as, stands_in, stage_gate_room, stage_output_room, operation_room, signal_room, top_asked, top_number, top_gate, top_output, top_operation, top_signal}
use Rattle.read_file.proofs.top_after.Goals as goal

pub overflow_add-at : goal.overflow_add-at
overflow_add-at c =
    omega (arith, operation_room (stands_in c.in-Reference.is (stands_as c.in-Gate.is c.requires.0)))

pub above-requires : goal.above-requires
above-requires c =
    omega (arith, operation_room (stands_in c.in-Reference.is (stands_as c.in-Gate.is c.requires.0)))

pub overflow_add-at-in_default-file : goal.overflow_add-at-in_default-file
overflow_add-at-in_default-file c =
    omega (arith, stage_gate_room c.in_default-file.not-Reference (stands_as c.in-Gate.is c.requires.0))

pub above-requires-in_default-file : goal.above-requires-in_default-file
above-requires-in_default-file c =
    omega (arith, stage_gate_room c.in_default-file.not-Reference (stands_as c.in-Gate.is c.requires.0))

pub overflow_add-at-in-Reference-file : goal.overflow_add-at-in-Reference-file
overflow_add-at-in-Reference-file c =
    omega (arith, signal_room (stands_in c.in-Reference-file.is (stands_as c.in-Output.is c.requires.0)))

pub above-requires-in-Reference-file : goal.above-requires-in-Reference-file
above-requires-in-Reference-file c =
    omega (arith, signal_room (stands_in c.in-Reference-file.is (stands_as c.in-Output.is c.requires.0)))

pub overflow_add-at-in_default-file-2 : goal.overflow_add-at-in_default-file-2
overflow_add-at-in_default-file-2 c =
    omega (arith, stage_output_room c.in_default-file-2.not-Reference (stands_as c.in-Output.is c.requires.0))

pub above-requires-in_default-file-2 : goal.above-requires-in_default-file-2
above-requires-in_default-file-2 c =
    omega (arith, stage_output_room c.in_default-file-2.not-Reference (stands_as c.in-Output.is c.requires.0))

pub returns-then-above-before : goal.returns-then-above-before
returns-then-above-before c =
    let told = c.in-Reference.is in
    rw told (top_operation c.args.before c.args.top (stands_in told (stands_as c.in-Gate.is c.requires.0)) c.above.ensures.1 c.if-above-before.true)

pub returns-else-above-before : goal.returns-else-above-before
returns-else-above-before c =
    top_asked c.args.file c.args.s.now c.args.at c.args.before c.args.top

pub returns-in_default-file : goal.returns-in_default-file
returns-in_default-file c =
    top_gate c.args.before c.args.top c.in_default-file.not-Reference c.above-in_default-file.ensures.0 (stands_as c.in-Gate.is c.requires.0) c.above-in_default-file.ensures.1

pub returns-in-Reference-file : goal.returns-in-Reference-file
returns-in-Reference-file c =
    let told = c.in-Reference-file.is in
    rw told (top_signal c.args.before c.args.top c.above-in-Reference-file.ensures.0 (stands_in told (stands_as c.in-Output.is c.requires.0)) c.above-in-Reference-file.ensures.1)

pub returns-in_default-file-2 : goal.returns-in_default-file-2
returns-in_default-file-2 c =
    top_output c.args.before c.args.top c.in_default-file-2.not-Reference c.above-in_default-file-2.ensures.0 (stands_as c.in-Output.is c.requires.0) c.above-in_default-file-2.ensures.1

pub returns-in-Register : goal.returns-in-Register
returns-in-Register c =
    top_asked c.args.file c.args.s.now c.args.at c.args.before c.args.top

pub returns-in_default : goal.returns-in_default
returns-in_default c =
    top_number c.args.before c.args.top c.requires.0 c.in_default.not-Gate c.in_default.not-Output c.in_default.not-Register c.in_default.not-Element
