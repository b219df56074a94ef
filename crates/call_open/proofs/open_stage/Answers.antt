-- `call_open::open_stage` meets its contract. Assumes nothing.
use Rattle.std.specs.Prelude.{Err}
use mathlib.Core.Path.{sym, subst, ◌∙◌}
use Rattle.verdict.specs.declared.Verdict.{Verdict}
use Rattle.call_open.specs.Opened.{OpenedAs}
use Rattle.call_open.proofs.Files.{was_loaded, opened_as, refused_as}
use Rattle.call_open.proofs.open_stage.Goals as goal

pub open_loaded-requires : goal.open_loaded-requires
open_loaded-requires c =
    (was_loaded c.args.stage.now _ _ (sym c.in-Ok.is ∙ c.read_stage.ensures.answered) c.read_stage.ensures.loaded, c.requires.0)

pub returns-in-Err : goal.returns-in-Err
returns-in-Err c =
    λ list long. subst (λ (v : Verdict). OpenedAs c.args.stage.now list c.args.each c.read_stage.new.code (Err v)) (sym c.unreadable.ensures)
    (refused_as c.args.stage.now _ _ (sym c.in-Err.is ∙ c.read_stage.ensures.answered) list c.args.each _)

pub returns-in-Ok : goal.returns-in-Ok
returns-in-Ok c =
    λ list long. opened_as c.args.stage.now _ _ (sym c.in-Ok.is ∙ c.read_stage.ensures.answered) c.read_stage.ensures.loaded list c.args.each c.args.given long
    _ _ c.open_loaded.ensures
