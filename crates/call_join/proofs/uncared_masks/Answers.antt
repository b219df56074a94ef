-- `call_join::uncared_masks` meets its contract. The loop's invariant: the masks of the blocks before block b are made. Assumes nothing.
use Prim.Native.Nat.{◌+◌, ◌-◌, ◌*◌, ◌^◌, ◌≤◌}
use native.Mathlib.Omega.{arith}
use mathlib.Core.Path.{refl, sym, ap, ◌∙◌}
use lib.ListN.{length-set}
use lib.Pow.{pow_mono}
use Rattle.circuit.specs.Stage.{stage_in}
use Rattle.circuit.specs.Reference.{reference_in}
use Rattle.words.proofs.Marking.{none_marked}
use Rattle.call_join.specs.Steps.{uncared_for}
use Rattle.call_join.proofs.Answers.{answered}
use Rattle.call_join.proofs.Masks.{blocks_more, blocks_done}
use Rattle.call_join.proofs.uncared_masks.Goals as goal

pub mark_care-requires : goal.mark_care-requires
mark_care-requires c = (c.requires.2, none_marked 1024)

pub loop-b-init : goal.loop-b-init
loop-b-init c = (refl, refl, omega arith, λ a j h d. absurd (omega arith))

pub signal_lanes-requires : goal.signal_lanes-requires
signal_lanes-requires c =
    let s = c.requires.1.within in
    (c.requires.1, omega (arith, c.loop-b.invariant.0, s.inputs_in, s.gates_in_holds))

pub slice_bounds-uncared_words-end : goal.slice_bounds-uncared_words-end
slice_bounds-uncared_words-end c = sym (c.signal_lanes.ensures.long ∙ c.loop-b.invariant.0)

pub slice_bounds-uncared_words-end-in-loop-b : goal.slice_bounds-uncared_words-end-in-loop-b
slice_bounds-uncared_words-end-in-loop-b c = sym c.mark_care.ensures.1

pub uncared_words-requires : goal.uncared_words-requires
uncared_words-requires c =
    let l = c.loop-b in
    let marked = c.mark_care.ensures in
    let s = c.requires.1.within in
    let few : 2 ^ c.args.sizes1.outputs ≤ 2 ^ 10 =
    pow_mono {i = c.args.sizes1.outputs} {j = 10} (omega (arith, c.requires.3, c.requires.2.within.inputs_in)) in (
      c.requires.1,
      omega (arith, c.signal_lanes.ensures.long, l.invariant.0, s.inputs_in, s.gates_in_holds),
      c.requires.2,
      marked.0,
      omega (arith, few, marked.1),
    )

pub bounds-masks-b : goal.bounds-masks-b
bounds-masks-b c = omega (arith, c.block_count-b-end.ensures.0)

pub loop-b-preserved : goal.loop-b-preserved
loop-b-preserved c =
    let signals = c.signal_lanes in
    let l = c.loop-b in
    let count = c.block_count-b-end.ensures in
    let r = reference_in c.args.sizes1 c.args.reference1.now in
    let t = stage_in c.args.counts2 c.args.code2.now in (
      signals.ensures.long ∙ l.invariant.0,
      length-set l.masks l.b _ ∙ l.invariant.1,
      omega arith,
      blocks_more r t l.masks l.b _ (omega (arith, count.0, l.invariant.1)) l.invariant.3 (λ j d.
          c.uncared_words.ensures j d
          ∙ ap (uncared_for t) (answered c.args.sizes1 c.args.reference1.now signals.new.values j c.requires.1 (64 * l.b + j)
          (signals.ensures.values j d))),
    )

pub returns : goal.returns
returns c =
    let l = c.loop-b in
    let count = c.block_count-b-end.ensures in
    blocks_done _ _ _ l.masks l.b (omega (arith, count.1)) (omega (arith, count.0, l.invariant.1, l.invariant.2)) l.invariant.3
