-- `call_witness::list_run` meets its contract. Assumes nothing.
use native.Mathlib.Omega.{arith}
use mathlib.Core.Path.{sym, ◌∙◌}
use Rattle.circuit.proofs.Settling.{low_row}
use Rattle.circuit_steps.specs.Moves.{row_in}
use Rattle.write_run.proofs.Listing.{put_both, put_rise}
use Rattle.call_witness.proofs.Putting.{listed_few, rise_listed, fall_listed, no_fall}
use Rattle.call_witness.proofs.list_run.Goals as goal

pub list_least-rise-requires : goal.list_least-rise-requires
list_least-rise-requires c =
    (c.requires.0, c.rails_without-goal.ensures.0, c.note_fed.ensures, low_row c.args.counts c.requires.0.within, omega (arith, c.requires.2))

pub gate_under-kept-requires : goal.gate_under-kept-requires
gate_under-kept-requires c = (c.requires.0.within, c.requires.1.gate_21)

pub list_least-count-requires : goal.list_least-count-requires
list_least-count-requires c =
    let x = c.list_least-rise.ensures in
    let few = listed_few c.args.counts c.args.code.now (row_in c.args.counts _) _ _ _ _ _ _ _ x.listed in
    (c.requires.0, c.rails_alone-back.ensures.0, c.note_fed.ensures, x.row, omega (arith, c.requires.2, few, c.list-1.given))

pub returns-then-has_fall : goal.returns-then-has_fall
returns-then-has_fall c =
    let n = c.args.counts in
    let code = c.args.code.now in
    let v = c.args.verdict in
    let a = c.rails_without-goal.ensures in
    let x = rise_listed n code v c.args.w _ _ _ _ _ _ _ c.input_under.ensures c.gate_under-held.ensures a.1 c.list_least-rise.ensures.listed in
    let d = c.rails_alone-back.ensures in
    let y = fall_listed n code v c.args.w _ _ _ _ _ _ _ _ _ c.input_under-then-has_fall.ensures c.gate_under-kept.ensures d.1
    (sym c.has_fall.ensures ∙ c.if-has_fall.true) x.row_is c.list_least-count.ensures.listed in
    put_both x y

pub returns : goal.returns
returns c =
    let n = c.args.counts in
    let code = c.args.code.now in
    let v = c.args.verdict in
    let x = rise_listed n code v c.args.w _ _ _ _ _ _ _ c.input_under.ensures c.gate_under-held.ensures c.rails_without-goal.ensures.1
    c.list_least-rise.ensures.listed in
    put_rise (no_fall n code v c.args.w (sym c.has_fall.ensures ∙ c.if-has_fall.false)) x
