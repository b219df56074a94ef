-- `call_text_read::read_text` meets its contract. Assumes nothing.
use native.Mathlib.Omega.{arith}
use mathlib.Core.Path.{sym, ◌∙◌}
use lib.Seq.{length-take-le}
use Rattle.text_spec.proofs.Demanded.{read_demanded}
use Rattle.call_text_read.proofs.Counting.{inputs_fit, two_newlines, counted}
use Rattle.call_text_read.proofs.Answering.{refused_29, passed_29}
use Rattle.call_text_read.proofs.read_text.Goals as goal

pub returns-in-Some : goal.returns-in-Some
returns-in-Some c =
    let s = c.args.s.now in
    let b = c.args.buffer.now in
    read_demanded s b _ _ (refused_29 s b _ _ (sym c.in-Some.is ∙ c.other_form.ensures)
    c.refuse.ensures)

pub slice_bounds-count-end : goal.slice_bounds-count-end
slice_bounds-count-end c = sym (length-take-le _ _ c.piece_len-n.ensures.1)

pub overflow_add-inputs : goal.overflow_add-inputs
overflow_add-inputs c =
    let s = c.args.s.now in
    let formed = sym (sym c.in_default.is ∙ c.other_form.ensures) in
    omega (arith, inputs_fit s formed _ c.piece_len-n.ensures.0, c.count-inputs.ensures)

pub overflow_sub-gates : goal.overflow_sub-gates
overflow_sub-gates c =
    let s = c.args.s.now in
    let formed = sym (sym c.in_default.is ∙ c.other_form.ensures) in
    omega (arith, two_newlines s formed, c.count-gates.ensures)

pub read_lines-requires : goal.read_lines-requires
read_lines-requires c =
    let s = c.args.s.now in
    let formed = sym (sym c.in_default.is
    ∙ c.other_form.ensures) in
    counted s formed _ c.piece_len-n.ensures.0 (omega (arith, c.count-inputs.ensures))
    (omega (arith, c.count-gates.ensures))

pub returns : goal.returns
returns c =
    let s = c.args.s.now in
    let b = c.args.buffer.now in
    read_demanded s b _ _ (passed_29 s b _ (sym c.in_default.is
    ∙ c.other_form.ensures) c.read_lines.ensures)
