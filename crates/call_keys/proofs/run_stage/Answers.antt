-- `call_keys::run_stage` meets its contract. Assumes nothing.
use Prim.Native.Nat.{ℕ, ◌*◌, ◌≤◌}
use native.Mathlib.Omega.{arith}
use mathlib.Core.Path.{ap}
use Rattle.verdict.specs.declared.Verdict.{Verdict}
use Rattle.run_spec.specs.declared.RunAnswer.{RunAnswer}
use lib.ListN.{length, replicate, length-replicate}
use Rattle.circuit.specs.Stage.{net_count}
use Rattle.call_keys.proofs.Runs.{run_room, run_count, given_by}
use Rattle.call_keys.proofs.run_stage.Goals as goal

pub word_of-w-requires : goal.word_of-w-requires
word_of-w-requires c = c.requires.0.within.inputs_in

pub list_run-lengths-requires : goal.list_run-lengths-requires
list_run-lengths-requires c =
    (c.requires.0, c.requires.1, omega (arith, length-replicate {A = ℕ} 552 0, c.requires.0.within.inputs_in, c.requires.0.within.gates_in_holds))

pub slice_bounds-run-end : goal.slice_bounds-run-end
slice_bounds-run-end c =
    let put = c.list_run-lengths.ensures in
    let room : 2 * net_count c.args.counts ≤ length (replicate {A = ℕ} 552 0) = omega (arith, length-replicate {A = ℕ} 552 0, c.requires.0.within.inputs_in, c.requires.0.within.gates_in_holds) in
    omega (arith, length-replicate {A = ℕ} 552 0, run_room c.args.counts c.args.code.now c.args.keys.now _ _ _ _ put room)

pub slice_bounds-hand_out-end : goal.slice_bounds-hand_out-end
slice_bounds-hand_out-end c =
    let put = c.list_run-lengths.ensures in
    let room : 2 * net_count c.args.counts ≤ length (replicate {A = ℕ} 552 0) = omega (arith, length-replicate {A = ℕ} 552 0, c.requires.0.within.inputs_in, c.requires.0.within.gates_in_holds) in
    run_count c.args.counts c.args.code.now c.args.keys.now _ _ _ _ put room

pub returns : goal.returns
returns c =
    let put = c.list_run-lengths.ensures in
    let room : 2 * net_count c.args.counts ≤ length (replicate {A = ℕ} 552 0) = omega (arith, length-replicate {A = ℕ} 552 0, c.requires.0.within.inputs_in, c.requires.0.within.gates_in_holds) in
    given_by c.args.order c.args.counts c.args.code.now c.args.name c.args.keys.now _ c.word_of-w.ensures _ _ _ put room _ _ c.hand_out.ensures _
    (ap {B = RunAnswer} (λ (v : Verdict). record { verdict = v; rise = c.list_run-lengths.result.rise; count = c.list_run-lengths.result.count }) c.accepted.ensures)
