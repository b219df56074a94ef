-- `text_read::put_read` meets its contract. Assumes nothing.
use native.Mathlib.Omega.{arith}
use mathlib.Core.Bool.{false}
use mathlib.Core.Path.{sym, ap, ◌∙◌}
use Rattle.verdict.specs.declared.Verdict.{Verdict}
use Rattle.verdict.specs.Written.{answer_of}
use Rattle.netlist.specs.declared.File.TheVariants as file
use Rattle.netlist.specs.declared.Limits.{Limits}
use Rattle.netlist.specs.Reading.{read_file, stage_limits}
use Rattle.netlist.specs.Read.{outcome_of}
use Rattle.netlist.proofs.Bounds.{no_more}
use Rattle.read_file.proofs.Room.{stage_room_holds}
use Rattle.text_read.proofs.Making.{made_refused, made_short, made_put}
use Rattle.text_read.proofs.put_read.Goals as goal

pub read_file-requires : goal.read_file-requires
read_file-requires c = stage_room_holds _ _ false (no_more _ stage_limits c.stage_limits.ensures) (omega arith)

pub returns-then-buffer-count : goal.returns-then-buffer-count
returns-then-buffer-count c =
    made_short c.args.made.now
    c.args.buffer.now _ _
    (sym c.in-Ok.is ∙ c.read_file.ensures.answered
    ∙ ap (λ (m : Limits). outcome_of (read_file file.Stage m
    c.args.made.now))
    c.stage_limits.ensures) (omega arith) c.refuse.ensures

pub returns-in-Err : goal.returns-in-Err
returns-in-Err c =
    made_refused c.args.made.now
    c.args.buffer.now _ _ _ (sym c.in-Err.is
    ∙ c.read_file.ensures.answered
    ∙ ap (λ (m : Limits). outcome_of (read_file file.Stage m
    c.args.made.now))
    c.stage_limits.ensures) (c.refused.ensures ∙ ap (λ (v : Verdict). answer_of v 0) c.unreadable.ensures)

pub returns-else-buffer-count : goal.returns-else-buffer-count
returns-else-buffer-count c =
    made_put c.args.made.now
    c.args.buffer.now _ _ _
    (sym c.in-Ok.is
    ∙ c.read_file.ensures.answered
    ∙ ap (λ (m : Limits). outcome_of (read_file file.Stage m
    c.args.made.now))
    c.stage_limits.ensures) (omega arith)
    c.put_bytes.ensures c.wrote.ensures
