-- `read_file::find_nameless` meets its contract. The loop's invariant, `Searched`: every operand before the position names something, so
-- the search goes on from there, over whole commands. Assumes nothing.
use native.Mathlib.Omega.{arith}
use mathlib.Core.Path.{sym}
use Rattle.read_command.proofs.Forms.{few_bytes}
use Rattle.read_file.proofs.Search.{after_gate_holds, after_other, search_starts, search_past, command_room, search_found, search_goes}
use Rattle.read_file.proofs.find_nameless.Goals as goal

pub loop-at-init : goal.loop-at-init
loop-at-init c = search_starts _ _ _ c.requires.1

pub nameless_at-requires : goal.nameless_at-requires
nameless_at-requires c =
    record {
      form_value = (c.form_of-form.ensures, command_room c.loop-at.invariant c.loop-at-test.true c.form_of-form.ensures);
      g_bound = (omega arith, omega (arith, c.loop-at.invariant, c.well_formed));
    }

pub returns-in-Some : goal.returns-in-Some
returns-in-Some c =
    sym (search_found c.loop-at.invariant c.loop-at-test.true c.form_of-form.ensures c.nameless_at.ensures c.in-Some.is)

pub width-requires : goal.width-requires
width-requires c = omega (arith, few_bytes _ _ c.form_of-form.ensures)

pub overflow_add-after : goal.overflow_add-after
overflow_add-after c =
    omega (arith, c.width.ensures, command_room c.loop-at.invariant c.loop-at-test.true c.form_of-form.ensures)

pub loop-at-smaller-in-Gate : goal.loop-at-smaller-in-Gate
loop-at-smaller-in-Gate c = omega (arith, few_bytes _ _ c.form_of-form.ensures, c.width.ensures)

pub loop-at-preserved-in-Gate : goal.loop-at-preserved-in-Gate
loop-at-preserved-in-Gate c =
    search_goes c.loop-at.invariant c.loop-at-test.true c.form_of-form.ensures c.nameless_at.ensures c.in_default.is _ c.width.ensures _
    (after_gate_holds _ c.in-Gate.is) (omega arith)

pub loop-at-smaller : goal.loop-at-smaller
loop-at-smaller c = omega (arith, few_bytes _ _ c.form_of-form.ensures, c.width.ensures)

pub loop-at-preserved : goal.loop-at-preserved
loop-at-preserved c =
    search_goes c.loop-at.invariant c.loop-at-test.true c.form_of-form.ensures c.nameless_at.ensures c.in_default.is _ c.width.ensures _
    (after_other _ c.form_of-form.result.sort c.in_default-sort.not-Gate) (omega arith)

pub returns : goal.returns
returns c = sym (search_past c.loop-at.invariant c.loop-at-test.false)
