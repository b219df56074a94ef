-- `text_write::second_name` meets its contract. The loop's invariant: no output before j gives a net a second name. Assumes nothing.
use mathlib.Core.Path.{sym, ◌∙◌}
use Rattle.circuit.specs.Stage.{output_in, stage_outputs}
use Rattle.text_write.proofs.Second.{second_found, second_on, second_none}
use Rattle.text_write.proofs.second_name.Goals as goal

pub is_second-requires : goal.is_second-requires
is_second-requires c =
    let loop-test = c.loop-j-test in
    (c.requires, loop-test.true)

pub returns-then-is_second : goal.returns-then-is_second
unfolding stage_outputs
returns-then-is_second c =
    let loop = c.loop-j in
    let loop-test = c.loop-j-test in
    let is-second = c.is_second in
    let if1 = c.if-is_second in
    second_found c.args.counts.inputs (output_in c.args.counts c.args.code.now) c.args.counts.outputs
    loop.invariant loop-test.true (sym is-second.ensures ∙ if1.true)

pub loop-j-preserved : goal.loop-j-preserved
loop-j-preserved c =
    let loop = c.loop-j in
    let loop-test = c.loop-j-test in
    let is-second = c.is_second in
    let if1 = c.if-is_second in
    second_on c.args.counts.inputs (output_in c.args.counts c.args.code.now) c.args.counts.outputs
    loop.invariant loop-test.true (sym is-second.ensures ∙ if1.false)

pub returns : goal.returns
unfolding stage_outputs
returns c =
    let loop = c.loop-j in
    let loop-test = c.loop-j-test in
    second_none c.args.counts.inputs (output_in c.args.counts c.args.code.now) c.args.counts.outputs
    loop.invariant loop-test.false
