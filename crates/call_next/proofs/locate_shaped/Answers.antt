-- `family::locate_shaped` meets its contract. Assumes nothing.
use native.Mathlib.Omega.{arith}
use mathlib.Core.Path.{sym, ◌∙◌}
use Rattle.call_next.proofs.Locating.{outside_count, outside_loop, outside_bytes, located_stage}
use Rattle.std.proofs.lemmas.Bool.Decides.{Decides-eqb}
use Rattle.std.proofs.lemmas.Slice.Eq.{slice_eq-Decides}
use Rattle.call_next.proofs.locate_shaped.Goals as goal

pub returns-then-stages-number : goal.returns-then-stages-number
returns-then-stages-number c =
    let a = c.args in
    let p = c.requires in
    let e = c.number_in-number.ensures in
    outside_count a.s.now a.inputs a.gates c.number_in-number.result p.0 p.1 p.2 e c.stages.result
    c.stages.ensures.0 c.if-stages-number.true

pub returns-then-starts_with : goal.returns-then-starts_with
returns-then-starts_with c =
    let a = c.args in
    let p = c.requires in
    let e = c.number_in-number.ensures in
    located_stage a.s.now a.inputs a.gates c.number_in-number.result
    p.0 p.1 p.2 e _
    c.write_stage.ensures _ (slice_eq-Decides Decides-eqb _ _ _ c.starts_with.ensures.value)
    (omega (arith, c.stages.ensures.0))
    (sym c.loop_free.ensures ∙ c.if-loop_free.true)
    c.if-starts_with.true

pub returns-then-loop_free : goal.returns-then-loop_free
returns-then-loop_free c =
    let a = c.args in
    let p = c.requires in
    let e = c.number_in-number.ensures in
    outside_bytes a.s.now a.inputs a.gates c.number_in-number.result
    p.0 p.1 p.2 e _
    c.write_stage.ensures _ (slice_eq-Decides Decides-eqb _ _ _ c.starts_with.ensures.value) c.if-starts_with.false

pub returns : goal.returns
returns c =
    let a = c.args in
    let p = c.requires in
    let e = c.number_in-number.ensures in
    outside_loop a.s.now a.inputs a.gates c.number_in-number.result p.0 p.1 p.2 e
    c.loop_free.result c.loop_free.ensures
    c.if-loop_free.false
