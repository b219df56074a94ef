-- `text_write::is_second` meets its contract. Assumes nothing.
use Prim.Native.Nat.{ℕ}
use mathlib.Core.Path.{sym, ◌∙◌}
use Rattle.netlist.specs.Content.{Pair}
use Rattle.circuit.specs.Stage.{output_in}
use Rattle.text_write.specs.Second.{given}
use Rattle.text_write.proofs.Second.{straight_no_second, second_rail_0, second_twice, second_rail_1}
use Rattle.text_write.proofs.is_second.Goals as goal

pub returns-then-is_straight : goal.returns-then-is_straight
returns-then-is_straight c =
    let j = c.args.j in
    let outs : ℕ → Pair = output_in c.args.counts c.args.code.now in
    straight_no_second c.args.counts.inputs (outs j) (given c.args.counts.inputs outs j) (sym c.is_straight.ensures ∙ c.if-is_straight.true)

pub returns-then-is_named : goal.returns-then-is_named
returns-then-is_named c =
    let j = c.args.j in
    let outs : ℕ → Pair = output_in c.args.counts c.args.code.now in
    second_rail_0 c.args.counts.inputs (outs j) (given c.args.counts.inputs outs j) (sym c.is_straight.ensures ∙ c.if-is_straight.false)
    (sym (rw c.rails_of-rails.ensures.is at c.is_named.ensures) ∙ c.if-is_named.true)

pub returns-then-rail1-rail0 : goal.returns-then-rail1-rail0
returns-then-rail1-rail0 c =
    let is = c.rails_of-rails.ensures.is in
    let j = c.args.j in
    let outs : ℕ → Pair = output_in c.args.counts c.args.code.now in
    second_twice c.args.counts.inputs (outs j) (given c.args.counts.inputs outs j)
    (sym c.is_straight.ensures ∙ c.if-is_straight.false)
    (sym (rw is at c.is_named.ensures) ∙ c.if-is_named.false) (rw is at c.if-rail1-rail0.true)

pub returns : goal.returns
returns c =
    let is = c.rails_of-rails.ensures.is in
    let j = c.args.j in
    let outs : ℕ → Pair = output_in c.args.counts c.args.code.now in
    rw is at c.is_named-2.ensures ∙ second_rail_1 c.args.counts.inputs (outs j) (given c.args.counts.inputs outs j)
    (sym c.is_straight.ensures ∙ c.if-is_straight.false)
    (sym (rw is at c.is_named.ensures) ∙ c.if-is_named.false) (rw is at c.if-rail1-rail0.false)
