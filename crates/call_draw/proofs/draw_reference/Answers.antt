-- `call_draw::draw_reference` meets its contract. Assumes nothing.
use Rattle.std.proofs.Common.{sym, ◌∙◌}
use Rattle.draw_spec.proofs.Answers.{in_range_holds, drawn_demand}
use Rattle.call_draw.proofs.Call.{out_of_range}
use Rattle.call_draw.proofs.draw_reference.Goals as goal

pub draw_within-requires : goal.draw_within-requires
draw_within-requires c = in_range_holds _ _ (sym c.in_range.ensures ∙ c.if-in_range.true)

pub returns-then-in_range : goal.returns-then-in_range
returns-then-in_range c =
    let a = c.args in
    drawn_demand a.seed a.inputs a.gates a.buffer.now c.draw_within.ensures

pub returns : goal.returns
returns c =
    let a = c.args in
    out_of_range a.seed a.inputs a.gates a.buffer.now c.in_range.ensures c.if-in_range.false
    c.refused_by.ensures
