-- `call_play::play` meets its contract. Assumes nothing.
use native.Mathlib.Omega.{arith}
use mathlib.Core.Path.{refl}
use Rattle.call_open.proofs.Files.{refused_by, opened_by, opened_fits}
use Rattle.call_play.proofs.Calls.{by_refusal, by_steps}
use Rattle.call_play.proofs.play.Goals as goal

pub play_stage-requires : goal.play_stage-requires
play_stage-requires c =
    let o = c.open_stage.ensures c.args.row.now refl in
    let e = c.in-Ok.is in
    ((opened_by o _ e).0.loaded, omega (arith, opened_fits o _ e))

pub returns-in-Err : goal.returns-in-Err
returns-in-Err c =
    by_refusal c.args.order c.args.stage.now c.args.name c.args.fall c.args.list.now c.args.row.now _
    (refused_by (c.open_stage.ensures c.args.row.now refl) _ c.in-Err.is) _ refl

pub returns-in-Ok : goal.returns-in-Ok
returns-in-Ok c =
    by_steps c.args.order c.args.stage.now c.args.name c.args.fall c.args.list.now c.args.row.now _ _
    (opened_by (c.open_stage.ensures c.args.row.now refl) _ c.in-Ok.is) _ _ c.play_stage.ensures
