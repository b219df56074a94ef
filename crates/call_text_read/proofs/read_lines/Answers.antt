-- `call_text_read::read_lines` meets its contract. Assumes nothing.
use native.Mathlib.Omega.{arith}
use mathlib.Core.Path.{sym, ◌∙◌}
use lib.Seq.{length-take-le}
use Rattle.call_text_read.specs.Counted.{saying, Few}
use Rattle.call_text_read.proofs.Counting.{counted_few, counted_rails}
use Rattle.call_text_read.proofs.Answering.{refused_30, refused_31, refused_3, refused_6, passed_all}
use Rattle.call_text_read.proofs.read_lines.Goals as goal

pub slice_bounds-undriven-end : goal.slice_bounds-undriven-end
slice_bounds-undriven-end c = sym (length-take-le _ _ c.fill_table-used.ensures.inside)

pub returns-in-Some : goal.returns-in-Some
returns-in-Some c =
    let t = saying c.args.s.now in
    let b = c.args.buffer.now in
    refused_30 t b _ _ (sym c.in-Some.is ∙ c.undriven.ensures) c.refuse.ensures

pub overflow_mul-inputs : goal.overflow_mul-inputs
overflow_mul-inputs c = omega (arith, counted_few c.requires)

pub driven_again-requires : goal.driven_again-requires
driven_again-requires c =
    (c.requires.formed, c.fill_table-used.ensures.tabled, counted_rails c.requires)

pub returns-in-Some-driven_again : goal.returns-in-Some-driven_again
returns-in-Some-driven_again c =
    let driven = sym c.in_default.is
    ∙ c.undriven.ensures in
    let t = saying c.args.s.now in
    let b = c.args.buffer.now in
    refused_31 t b driven _ _ (sym c.in-Some-driven_again.is ∙ c.driven_again.ensures) c.refuse-in-Some-driven_again.ensures

pub returns-then-inputs-gt-INPUTS : goal.returns-then-inputs-gt-INPUTS
returns-then-inputs-gt-INPUTS c =
    let driven = sym c.in_default.is
    ∙ c.undriven.ensures in
    let once = sym c.in_default-driven_again.is ∙ c.driven_again.ensures in
    let t = saying c.args.s.now in
    let b = c.args.buffer.now in
    refused_3 t b driven once _ (omega (arith, c.requires.inputs_are, c.if-inputs-gt-INPUTS.true)) c.refuse-then-inputs-gt-INPUTS.ensures

pub returns-then-gates-gt-STAGE_GATES : goal.returns-then-gates-gt-STAGE_GATES
returns-then-gates-gt-STAGE_GATES c =
    let driven = sym c.in_default.is
    ∙ c.undriven.ensures in
    let once = sym c.in_default-driven_again.is ∙ c.driven_again.ensures in
    let t = saying c.args.s.now in
    let b = c.args.buffer.now in
    refused_6 t b driven once (omega (arith, c.requires.inputs_are, c.if-inputs-gt-INPUTS.false)) _ (omega (arith, c.requires.gates_are, c.if-gates-gt-STAGE_GATES.true))
    c.refuse-then-gates-gt-STAGE_GATES.ensures

pub slice_bounds-make_file-end : goal.slice_bounds-make_file-end
slice_bounds-make_file-end c =
    sym (length-take-le _ _ c.fill_table-used.ensures.inside)

pub make_file-requires : goal.make_file-requires
make_file-requires c =
    let few : Few _ _ = record { inputs_in = c.if-inputs-gt-INPUTS.false; gates_in_holds = c.if-gates-gt-STAGE_GATES.false } in
    (c.requires, few, c.fill_table-used.ensures.full few)

pub returns : goal.returns
returns c =
    let driven = sym c.in_default.is ∙ c.undriven.ensures in
    let once = sym c.in_default-driven_again.is
    ∙ c.driven_again.ensures in
    let t = saying c.args.s.now in
    let b = c.args.buffer.now in
    passed_all t b driven once (omega (arith, c.requires.inputs_are, c.if-inputs-gt-INPUTS.false)) _
    (omega (arith, c.requires.gates_are, c.if-gates-gt-STAGE_GATES.false)) c.make_file.ensures
