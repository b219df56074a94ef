-- `check_files::judge` meets its contract. Assumes nothing.
use Rattle.std.specs.Prelude.{Err}
use mathlib.Core.Path.{sym, ap, ◌∙◌}
use Rattle.check_files.proofs.Findings.{not_passed}
use Rattle.check_files.proofs.Judging.{is_10, is_11, is_wiring, is_28, comparable, is_swept}
use Rattle.check_files.proofs.judge.Goals as goal

pub returns-then-counts-sizes : goal.returns-then-counts-sizes
returns-then-counts-sizes c = record { found = λ h. is_10 _ h _ _ c.if-counts-sizes.true; passed = λ h. not_passed }

pub returns-then-counts-sizes-2 : goal.returns-then-counts-sizes-2
returns-then-counts-sizes-2 c = record { found = λ h. is_11 _ h _ _ c.if-counts-sizes.false c.if-counts-sizes-2.true; passed = λ h. not_passed }

pub returns-in-Err : goal.returns-in-Err
returns-in-Err c =
    let inputs = c.if-counts-sizes.false in
    let outputs = c.if-counts-sizes-2.false in
    record { found = λ h. is_wiring _ h _ _ inputs outputs (sym c.in-Err.is ∙ c.check_wires.ensures.found h); passed = λ h. not_passed }

pub least_retired-requires : goal.least_retired-requires
least_retired-requires c =
    (c.check_wires.ensures.passed c.requires.0 c.in_default.is).loaded

pub returns-in-Some : goal.returns-in-Some
returns-in-Some c =
    let inputs = c.if-counts-sizes.false in
    let outputs = c.if-counts-sizes-2.false in
    let passed = c.in_default.is in record { found = λ h. ap Err c.fault.ensures ∙ is_28 _ h _ _ inputs outputs (sym passed ∙ c.check_wires.ensures.found h) (c.check_wires.ensures.passed h passed) c.least_retired.ensures _ c.in-Some.is; passed = λ h. not_passed }

pub sweep_all-requires : goal.sweep_all-requires
sweep_all-requires c =
    comparable c.if-counts-sizes.false c.if-counts-sizes-2.false (c.check_wires.ensures.passed c.requires.0 c.in_default.is) c.requires.2

pub returns : goal.returns
returns c =
    let inputs = c.if-counts-sizes.false in
    let outputs = c.if-counts-sizes-2.false in
    let passed = c.in_default.is in
    let none = c.in_default-least_retired.is in record { found = λ h. is_swept _ h _ _ inputs outputs (sym passed ∙ c.check_wires.ensures.found h) (c.check_wires.ensures.passed h passed) c.least_retired.ensures none c.sweep_all.ensures; passed = λ h e. let o = c.check_wires.ensures.passed h passed in (comparable inputs outputs o c.requires.2, o.same) }
