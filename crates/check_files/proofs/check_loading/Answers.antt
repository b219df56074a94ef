-- `check_files::check_loading` meets its contract. Assumes nothing.
use native.Mathlib.Omega.{arith}
use Rattle.std.specs.Prelude.{Err}
use mathlib.Core.Path.{sym, subst, ◌∙◌}
use Rattle.verdict.specs.declared.Verdict.{Verdict}
use Rattle.verdict.proofs.HandedOn.{handed_on}
use Rattle.check_files.specs.Judgement.{Judgement, JudgedAs}
use Rattle.check_spec.specs.Content.{files_within}
use Rattle.circuit_load.proofs.Reading.{reference_held}
use Rattle.check_files.proofs.Files.{held, stage_refused, reference_refused, checks_refuse, checks_pass}
use Rattle.check_files.proofs.check_loading.Goals as goal

pub judge-requires : goal.judge-requires
judge-requires c =
    let a = c.args in
    let f = files_within a.registers a.stage_most a.reference_most a.stage.now a.reference.now in
    let is = c.read_pipeline_within.ensures in (
      held a.order f c.requires.0 _ _ _ _ (sym c.in-Ok.is ∙ is.answered) is.loaded,
      record { nets_room = omega arith; registers_room = omega arith },
      (reference_held a.reference.now _ _ _ (sym c.in-Ok-read_reference_within.is ∙ c.read_reference_within.ensures.answered) c.read_reference_within.ensures.loaded).3,
    )

pub returns-in-Err : goal.returns-in-Err
returns-in-Err c =
    let a = c.args in
    let f = files_within a.registers a.stage_most a.reference_most a.stage.now a.reference.now in
    subst (λ (v : Verdict). JudgedAs a.order f (Err v) c.read_pipeline_within.new.code a.loaded.now) (sym c.unreadable.ensures)
    (stage_refused a.order f _ _ (sym c.in-Err.is ∙ c.read_pipeline_within.ensures.answered))

pub returns-in-Err-read_reference_within : goal.returns-in-Err-read_reference_within
returns-in-Err-read_reference_within c =
    let a = c.args in
    let is = c.read_pipeline_within.ensures in
    let f = files_within a.registers a.stage_most a.reference_most a.stage.now a.reference.now in
    subst (λ (v : Verdict). JudgedAs a.order f (Err v) c.read_pipeline_within.new.code c.read_reference_within.new.code)
    (sym c.unreadable-in-Err-read_reference_within.ensures)
    (reference_refused a.order f c.requires.0 _ _ _ _ (sym c.in-Ok.is ∙ is.answered) is.loaded _ _
    (sym c.in-Err-read_reference_within.is ∙ c.read_reference_within.ensures.answered))

pub returns-in_err-judge : goal.returns-in_err-judge
returns-in_err-judge c =
    let a = c.args in
    let f = files_within a.registers a.stage_most a.reference_most a.stage.now a.reference.now in
    let is = c.read_pipeline_within.ensures in
    let it = c.read_reference_within.ensures in
    let read = sym c.in-Ok.is ∙ is.answered in
    subst (λ (j : Judgement). JudgedAs a.order f j c.judge.new.code c.read_reference_within.new.code) (sym (handed_on _ _ c.from_residual.ensures.1))
    (checks_refuse a.order f c.requires.0 _ _ _ _ read is.loaded _ _ (sym c.in-Ok-read_reference_within.is ∙ it.answered) it.loaded _
    (sym c.in_err-judge.was ∙ c.judge.ensures.found (held a.order f c.requires.0 _ _ _ _ read is.loaded)))

pub returns : goal.returns
returns c =
    let a = c.args in
    let f = files_within a.registers a.stage_most a.reference_most a.stage.now a.reference.now in
    let is = c.read_pipeline_within.ensures in
    let it = c.read_reference_within.ensures in
    let read = sym c.in-Ok.is ∙ is.answered in
    let passed = c.in_ok-judge.was in
    let h = held a.order f c.requires.0 _ _ _ _ read is.loaded in
    checks_pass a.order f c.requires.0 _ _ _ _ read is.loaded _ _ (sym c.in-Ok-read_reference_within.is ∙ it.answered) it.loaded
    (sym passed ∙ c.judge.ensures.found h) (c.judge.ensures.passed h passed)
