-- `call_text_write::write_text` meets its contract. Assumes nothing.
use mathlib.Core.Path.{sym, ap, ◌∙◌}
use Rattle.std.proofs.Common.{rules}
use Rattle.verdict.specs.declared.Verdict.{Verdict}
use Rattle.verdict.specs.Written.{answer_of}
use Rattle.text_spec.proofs.Demanded.{write_demanded}
use Rattle.call_text_write.proofs.Answering.{bytes_small, file_refused, file_loaded, file_leaves_holds}
use Rattle.call_text_write.proofs.write_text.Goals as goal

pub write_loaded-requires : goal.write_loaded-requires
write_loaded-requires c =
    let read-stage = c.read_stage in
    file_loaded c.args.stage.now c.args.buffer.now _ _ (sym c.in-Ok.is ∙ read-stage.ensures.answered) read-stage.ensures.loaded

pub returns-in-Err : goal.returns-in-Err
returns-in-Err c =
    let read-stage = c.read_stage in
    let refused = c.refused in
    write_demanded c.args.stage.now c.args.buffer.now (bytes_small c.args.stage.now (λ i. (c.type_inv.stage i).fits)) _ _
    (file_refused c.args.stage.now c.args.buffer.now _ _ (sym c.in-Err.is ∙ read-stage.ensures.answered)
    (refused.ensures ∙ ap (λ (v : Verdict). answer_of v 0) (search rules)))

pub returns-in-Ok : goal.returns-in-Ok
returns-in-Ok c =
    let read-stage = c.read_stage in
    let write-loaded = c.write_loaded in
    write_demanded c.args.stage.now c.args.buffer.now (bytes_small c.args.stage.now (λ i. (c.type_inv.stage i).fits)) _ _
    (file_leaves_holds c.args.stage.now c.args.buffer.now _ _ (sym c.in-Ok.is ∙ read-stage.ensures.answered) read-stage.ensures.loaded
    write-loaded.ensures)
