-- `call_witness::witness_stage` meets its contract. Assumes nothing.
use Prim.Native.Nat.{ℕ, ◌*◌, ◌≤◌}
use native.Mathlib.Omega.{arith}
use mathlib.Core.Path.{refl, sym, ◌∙◌}
use lib.ListN.{length, replicate, length-replicate}
use Rattle.circuit.specs.Stage.{net_count}
use Rattle.call_witness.proofs.Files.{opened, named_in, lists_few, handed_count, given_for, not_refused}
use Rattle.call_witness.proofs.witness_stage.Goals as goal

pub name_shown-name-requires : goal.name_shown-name-requires
name_shown-name-requires c =
    let stage = c.args.stage.now in
    let f = c.read_stage.ensures in
    let read = sym c.in-Ok.is ∙ f.answered in
    opened stage c.args.verdict c.requires _ _ read f.loaded

pub word_of-w-requires : goal.word_of-w-requires
word_of-w-requires c =
    let stage = c.args.stage.now in
    let f = c.read_stage.ensures in
    let read = sym c.in-Ok.is ∙ f.answered in
    (opened stage c.args.verdict c.requires _ _ read f.loaded).within.inputs_in

pub list_run-lengths-requires : goal.list_run-lengths-requires
list_run-lengths-requires c =
    let stage = c.args.stage.now in
    let f = c.read_stage.ensures in
    let read = sym c.in-Ok.is ∙ f.answered in
    let loaded = opened stage c.args.verdict c.requires _ _ read f.loaded in
    (loaded, named_in stage c.args.verdict c.requires _ _ read f.loaded, omega (arith, length-replicate {A = ℕ} 552 0, loaded.within.inputs_in, loaded.within.gates_in_holds))

pub slice_bounds-run-end : goal.slice_bounds-run-end
slice_bounds-run-end c =
    let stage = c.args.stage.now in
    let f = c.read_stage.ensures in
    let read = sym c.in-Ok.is ∙ f.answered in
    let n = c.name_shown-name.ensures in
    let w = c.word_of-w.ensures in
    let put = c.list_run-lengths.ensures in
    let n' = c.in-Ok.counts in
    let loaded = opened stage c.args.verdict c.requires _ _ read f.loaded in
    let room : 2 * net_count n' ≤ length (replicate {A = ℕ} 552 0) = omega (arith, length-replicate {A = ℕ} 552 0, loaded.within.inputs_in, loaded.within.gates_in_holds) in
    omega (arith, length-replicate {A = ℕ} 552 0, lists_few stage c.args.verdict c.requires _ _ read f.loaded c.args.order c.args.asked _ n _ w _ _ _ put room)

pub slice_bounds-hand_out-end : goal.slice_bounds-hand_out-end
slice_bounds-hand_out-end c =
    let stage = c.args.stage.now in
    let f = c.read_stage.ensures in
    let read = sym c.in-Ok.is ∙ f.answered in
    let n = c.name_shown-name.ensures in
    let w = c.word_of-w.ensures in
    let put = c.list_run-lengths.ensures in
    let n' = c.in-Ok.counts in
    let loaded = opened stage c.args.verdict c.requires _ _ read f.loaded in
    let room : 2 * net_count n' ≤ length (replicate {A = ℕ} 552 0) = omega (arith, length-replicate {A = ℕ} 552 0, loaded.within.inputs_in, loaded.within.gates_in_holds) in
    handed_count stage c.args.verdict c.requires _ _ read f.loaded c.args.order c.args.asked _ n _ w _ _ _ put room

pub returns-in-Ok : goal.returns-in-Ok
returns-in-Ok c =
    let stage = c.args.stage.now in
    let f = c.read_stage.ensures in
    let read = sym c.in-Ok.is ∙ f.answered in
    let n = c.name_shown-name.ensures in
    let w = c.word_of-w.ensures in
    let put = c.list_run-lengths.ensures in
    let n' = c.in-Ok.counts in
    let loaded = opened stage c.args.verdict c.requires _ _ read f.loaded in
    let room : 2 * net_count n' ≤ length (replicate {A = ℕ} 552 0) = omega (arith, length-replicate {A = ℕ} 552 0, loaded.within.inputs_in, loaded.within.gates_in_holds) in
    given_for stage c.args.verdict c.requires _ _ read f.loaded c.args.order c.args.asked _ n _ w _ _ _ put room _ _ c.hand_out.ensures _ refl

pub returns : goal.returns
returns c =
    absurd (not_refused c.args.stage.now c.requires.reads _ _ (sym c.in_default.is ∙ c.read_stage.ensures.answered))
