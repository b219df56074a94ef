-- `text_write::names_net` meets its contract. Assumes nothing.
use mathlib.Core.Path.{sym, ◌∙◌}
use Rattle.circuit.specs.Stage.{output_in}
use Rattle.text_write.proofs.Second.{straight_none, names_rail_1, names_rail_0}
use Rattle.text_write.proofs.names_net.Goals as goal

pub returns-then-is_straight : goal.returns-then-is_straight
returns-then-is_straight c =
    straight_none c.args.counts.inputs (output_in c.args.counts c.args.code.now c.args.j) c.args.v
    (sym c.is_straight.ensures ∙ c.if-is_straight.true)

pub returns-then-v-rails : goal.returns-then-v-rails
returns-then-v-rails c =
    names_rail_1 c.args.counts.inputs (output_in c.args.counts c.args.code.now c.args.j) c.args.v
    (sym c.is_straight.ensures ∙ c.if-is_straight.false) (rw c.rails_of-rails.ensures.is at c.if-v-rails.true)

pub returns : goal.returns
returns c =
    let is = c.rails_of-rails.ensures.is in
    rw is (names_rail_0 c.args.counts.inputs (output_in c.args.counts c.args.code.now c.args.j) c.args.v
    (sym c.is_straight.ensures ∙ c.if-is_straight.false) (rw is at c.if-v-rails.false))
