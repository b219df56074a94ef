-- `check_files::check_wires` meets its contract. Assumes nothing.
use native.Mathlib.Omega.{arith}
use mathlib.Core.Path.{sym}
use lib.Seq.{length-take-le}
use Rattle.check_files.proofs.Holding.{plain_loaded, plain_found, plain_ordered, few_parts, part_nets_holds, registers_held, registers_found, registers_ordered}
use Rattle.check_files.proofs.check_wires.Goals as goal

pub find_loop-requires : goal.find_loop-requires
find_loop-requires c = plain_loaded c.requires.0 c.if-counts-eq0.true

pub returns-then-counts-eq0 : goal.returns-then-counts-eq0
returns-then-counts-eq0 c =
    let none = c.if-counts-eq0.true in
    let loop = c.find_loop.ensures in
    record { found = λ h. plain_found h none loop.found; passed = λ h passed. plain_ordered h none (loop.passed passed) }

pub overflow_mul-end : goal.overflow_mul-end
overflow_mul-end c = omega (arith, few_parts c.requires.0)

pub overflow_add-end : goal.overflow_add-end
overflow_add-end c = omega (arith, few_parts c.requires.0)

pub overflow_mul-end-2 : goal.overflow_mul-end-2
overflow_mul-end-2 c = omega (arith, few_parts c.requires.0)

pub slice_bounds-wire_registers-end : goal.slice_bounds-wire_registers-end
slice_bounds-wire_registers-end c =
    part_nets_holds c.requires.0 c.requires.1

pub slice_bounds-wire_registers-end-2 : goal.slice_bounds-wire_registers-end-2
slice_bounds-wire_registers-end-2 c =
    sym (length-take-le _ _ (part_nets_holds c.requires.0 c.requires.1))

pub wire_registers-requires : goal.wire_registers-requires
wire_registers-requires c =
    (registers_held c.requires.0 c.requires.1 c.if-counts-eq0.false).0

pub returns : goal.returns
returns c =
    let room = c.requires.1 in
    let some = c.if-counts-eq0.false in record { found = λ h. registers_found h room some (c.wire_registers.ensures.found (registers_held h room some).0); passed = λ h passed. registers_ordered h room some (c.wire_registers.ensures.passed (registers_held h room some).0 passed) }
