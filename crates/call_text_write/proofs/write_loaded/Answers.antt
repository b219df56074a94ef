-- `call_text_write::write_loaded` meets its contract. Assumes nothing.
use mathlib.Core.Path.{sym, ap, ◌∙◌}
use Rattle.verdict.specs.declared.Verdict.{Verdict}
use Rattle.verdict.specs.Written.{answer_of}
use Rattle.call_text_write.proofs.Answering.{care_leaves, second_leaves, text_leaves}
use Rattle.call_text_write.proofs.write_loaded.Goals as goal

pub returns-then-counts-gt0 : goal.returns-then-counts-gt0
returns-then-counts-gt0 c =
    let if1 = c.if-counts-gt0 in
    let refused_by = c.refused_by in
    care_leaves c.args.counts c.args.code.now c.args.buffer.now if1.true refused_by.ensures

pub second_name-requires : goal.second_name-requires
second_name-requires c =
    c.requires.0

pub returns-in-Some : goal.returns-in-Some
returns-in-Some c =
    let if1 = c.if-counts-gt0 in
    let second-name = c.second_name in
    let refused = c.refused in
    second_leaves c.args.counts c.args.code.now c.args.buffer.now if1.false _ (sym c.in-Some.is ∙ second-name.ensures)
    (refused.ensures ∙ ap (λ (v : Verdict). answer_of v 0) c.fault.ensures)

pub write_room-requires : goal.write_room-requires
write_room-requires c =
    c.requires

pub returns : goal.returns
returns c =
    let if1 = c.if-counts-gt0 in
    let second-name = c.second_name in
    let write-room = c.write_room in
    text_leaves c.args.counts c.args.code.now c.args.buffer.now if1.false (sym c.in_default.is ∙ second-name.ensures)
    write-room.ensures
