-- `call_text_write::put_whole` meets its contract. Assumes nothing.
use native.Mathlib.Omega.{arith}
use mathlib.Core.Path.{refl, ◌∙◌}
use Rattle.verdict.specs.Checks.{verdict}
use Rattle.write_command.proofs.Answers.{answers_short, answers_written}
use Rattle.call_text_write.proofs.Answering.{room_leaves}
use Rattle.call_text_write.proofs.put_whole.Goals as goal

pub returns-then-buffer-count : goal.returns-then-buffer-count
returns-then-buffer-count c =
    let if1 = c.if-buffer-count in
    let refused_by = c.refused_by in
    answers_short (verdict 24 3 0 0) c.args.bytes.now c.args.buffer.now if1.true refused_by.ensures ∙ room_leaves
    c.args.bytes.now c.args.buffer.now

pub put_bytes-requires : goal.put_bytes-requires
put_bytes-requires c =
    let if1 = c.if-buffer-count in
    omega (arith, if1.false)

pub returns : goal.returns
returns c =
    let if1 = c.if-buffer-count in
    let put-bytes = c.put_bytes in
    let wrote = c.wrote in
    answers_written (verdict 24 3 0 0) c.args.bytes.now c.args.buffer.now if1.false put-bytes.ensures refl wrote.ensures
    ∙ room_leaves c.args.bytes.now c.args.buffer.now
