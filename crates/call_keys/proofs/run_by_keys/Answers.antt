-- `call_keys::run_by_keys` meets its contract. Assumes nothing.
use mathlib.Core.Path.{refl}
use Rattle.call_open.proofs.Files.{refused_by, opened_by, opened_fits}
use Rattle.call_keys.proofs.Runs.{by_refusal, by_run}
use Rattle.call_keys.proofs.run_by_keys.Goals as goal

pub run_stage-requires : goal.run_stage-requires
run_stage-requires c =
    let o = c.open_stage.ensures c.args.keys.now refl in
    let e = c.in-Ok.is in
    ((opened_by o _ e).0.loaded, opened_fits o _ e)

pub returns-in-Err : goal.returns-in-Err
returns-in-Err c =
    by_refusal c.args.order c.args.stage.now c.args.name c.args.keys.now _ _
    (refused_by (c.open_stage.ensures c.args.keys.now refl) _ c.in-Err.is) _ refl

pub returns-in-Ok : goal.returns-in-Ok
returns-in-Ok c =
    by_run c.args.order c.args.stage.now c.args.name c.args.keys.now _ _ _
    (opened_by (c.open_stage.ensures c.args.keys.now refl) _ c.in-Ok.is) _ _ c.run_stage.ensures
