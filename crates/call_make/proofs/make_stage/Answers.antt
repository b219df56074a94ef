-- `call_make::make_stage` meets its contract. Assumes nothing.
use native.Mathlib.Omega.{arith}
use mathlib.Core.Path.{sym, ap, ◌∙◌}
use Rattle.verdict.specs.declared.Verdict.{Verdict}
use Rattle.verdict.specs.Written.{answer_of}
use Rattle.netlist.specs.Reading.{reference_limits}
use Rattle.netlist.proofs.Bounds.{no_more}
use Rattle.call_make.proofs.Answering.{file_refused, file_loaded, file_made, reference_read_by}
use Rattle.make_spec.proofs.Making.{make_demand}
use Rattle.call_make.proofs.make_stage.Goals as goal

pub make_loaded-requires : goal.make_loaded-requires
make_loaded-requires c =
    let s = c.args.reference.now in
    let f = reference_read_by _ s _ _ c.reference_limits.ensures
    (c.read_reference_within.ensures.answered, c.read_reference_within.ensures.loaded) in
    file_loaded s c.args.buffer.now _ _ (sym c.in-Ok.is ∙ f.0) f.1

pub returns-in-Err : goal.returns-in-Err
returns-in-Err c =
    let s = c.args.reference.now in
    let f = reference_read_by _ s _ _ c.reference_limits.ensures
    (c.read_reference_within.ensures.answered, c.read_reference_within.ensures.loaded) in
    make_demand s c.args.buffer.now _ _ (file_refused s c.args.buffer.now _ _ _ (sym c.in-Err.is ∙ f.0)
    (c.refused.ensures ∙ ap (λ (v : Verdict). answer_of v 0) c.unreadable.ensures))

pub returns-in-Ok : goal.returns-in-Ok
returns-in-Ok c =
    let s = c.args.reference.now in
    let f = reference_read_by _ s _ _ c.reference_limits.ensures
    (c.read_reference_within.ensures.answered, c.read_reference_within.ensures.loaded) in
    make_demand s c.args.buffer.now _ _
    (file_made s c.args.buffer.now _ _ (sym c.in-Ok.is ∙ f.0) f.1 _ _ c.make_loaded.ensures)
