-- `read_command::take_command` meets its contract, by its arms. Assumes nothing.
use native.Mathlib.Omega.{arith}
use mathlib.Core.Path.{sym, ◌∙◌}
use borrow.Author.Tests.{le-leb, lt-leb}
use Rattle.netlist.specs.Commands.{take_sort}
use Rattle.read_command.proofs.Forms.{few_bytes, gate_lead, care_wide, element_wide, inputs_wide}
use Rattle.read_command.proofs.Position.{by_sort, by_rest}
use Rattle.read_command.proofs.take_command.Goals as goal

pub width-requires : goal.width-requires
width-requires c = omega (arith, few_bytes _ _ c.requires.0)

pub bounds-s-count : goal.bounds-s-count
bounds-s-count c =
    omega (arith, inputs_wide _ _ c.requires.0 c.in-Inputs.is, c.requires.1)

pub returns-then-n-most : goal.returns-then-n-most
unfolding take_sort
returns-then-n-most c =
    sym (by_sort _ _ _ _ _ _ _ c.width.ensures _ c.in-Inputs.is ∙ simp (le-leb _ _ c.if-n-ge1.true, le-leb _ _ c.if-n-most.true))

pub take_gate-requires : goal.take_gate-requires
take_gate-requires c = omega (arith, gate_lead _ _ c.requires.0 c.in-Gate.is, c.requires.1)

pub take_element-requires : goal.take_element-requires
take_element-requires c = (element_wide _ _ c.requires.0 c.in-Element.is, c.requires.1)

pub take_care-requires : goal.take_care-requires
take_care-requires c =
    omega (arith, care_wide _ _ c.requires.0 c.in-Care.is, c.requires.1)

pub returns-else-n-most : goal.returns-else-n-most
unfolding take_sort
returns-else-n-most c =
    sym (by_sort _ _ _ _ _ _ _ c.width.ensures _ c.in-Inputs.is ∙ simp (le-leb _ _ c.if-n-ge1.true, lt-leb _ _ c.if-n-most.false))

pub returns-else-n-ge1 : goal.returns-else-n-ge1
unfolding take_sort
returns-else-n-ge1 c = sym (by_sort _ _ _ _ _ _ _ c.width.ensures _ c.in-Inputs.is ∙ simp (lt-leb _ _ c.if-n-ge1.false))

pub returns-in-Gate : goal.returns-in-Gate
unfolding take_sort
returns-in-Gate c = c.take_gate.ensures ∙ sym (by_sort _ _ _ _ _ _ _ c.width.ensures _ c.in-Gate.is)

pub returns-then-most-before : goal.returns-then-most-before
unfolding take_sort
returns-then-most-before c =
    sym (by_sort _ _ _ _ _ _ _ c.width.ensures _ c.in-Output.is ∙ simp (le-leb _ _ c.if-most-before.true))

pub returns-else-most-before : goal.returns-else-most-before
unfolding take_sort
returns-else-most-before c =
    sym (by_sort _ _ _ _ _ _ _ c.width.ensures _ c.in-Output.is ∙ simp (lt-leb _ _ c.if-most-before.false))

pub returns-in-Care : goal.returns-in-Care
unfolding take_sort
returns-in-Care c =
    c.take_care.ensures ∙ sym (by_sort _ _ _ _ _ _ _ c.width.ensures _ c.in-Care.is)

pub returns-then-before-ge-PARTS : goal.returns-then-before-ge-PARTS
unfolding take_sort
returns-then-before-ge-PARTS c =
    sym (by_sort _ _ _ _ _ _ _ c.width.ensures _ c.in-Register.is ∙ simp (le-leb _ _ c.if-before-ge-PARTS.true))

pub returns-else-before-ge-PARTS : goal.returns-else-before-ge-PARTS
unfolding take_sort
returns-else-before-ge-PARTS c =
    sym (by_sort _ _ _ _ _ _ _ c.width.ensures _ c.in-Register.is ∙ simp (lt-leb _ _ c.if-before-ge-PARTS.false))

pub returns-in-Element : goal.returns-in-Element
unfolding take_sort
returns-in-Element c = c.take_element.ensures ∙ sym (by_sort _ _ _ _ _ _ _ c.width.ensures _ c.in-Element.is)

pub returns-in-End : goal.returns-in-End
returns-in-End c = by_rest _ _ _ _ _ _ _ c.width.ensures c.in-End.is
