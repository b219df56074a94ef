-- `text_write::is_straight` meets its contract. Assumes nothing.
use Rattle.circuit.specs.Stage.{output_in}
use Rattle.text_write.proofs.Second.{not_input, even_rail, odd_rail}
use Rattle.text_write.proofs.is_straight.Goals as goal

pub returns-then-counts-rail0 : goal.returns-then-counts-rail0
returns-then-counts-rail0 c =
    not_input c.args.counts.inputs (output_in c.args.counts c.args.code.now c.args.j) (rw c.rails_of-rails.ensures.is at c.if-counts-rail0.true)

pub returns-then-rail0-eq0 : goal.returns-then-rail0-eq0
returns-then-rail0-eq0 c =
    let is = c.rails_of-rails.ensures.is in
    rw is (even_rail c.args.counts.inputs (output_in c.args.counts c.args.code.now c.args.j) (rw is at c.if-counts-rail0.false) (rw is at c.if-rail0-eq0.true))

pub returns : goal.returns
returns c =
    let is = c.rails_of-rails.ensures.is in
    odd_rail c.args.counts.inputs (output_in c.args.counts c.args.code.now c.args.j) (rw is at c.if-counts-rail0.false) (rw is at c.if-rail0-eq0.false)
