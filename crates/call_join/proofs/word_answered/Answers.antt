-- `call_join::word_answered` meets its contract. The loop's invariant: the outputs from output k on spell `word`. Assumes nothing.
use Prim.Native.Nat.{ℕ, ◌-◌, ◌*◌, ◌+◌}
use native.Mathlib.Omega.{arith}
use mathlib.Core.Path.{◌≡◌, sym, ap, ◌∙◌}
use Rattle.circuit.specs.Reference.{signal_in, signals_in}
use Rattle.lane_cells.specs.Lane.{level_in}
use Rattle.lane_cells.proofs.Blocks.{level_at}
use Rattle.call_join.proofs.Answers.{word_from, word_none, word_few, word_more, value_in, value_small}
use Rattle.call_join.proofs.word_answered.Goals as goal

pub loop-k-init : goal.loop-k-init
loop-k-init c =
    word_none (value_in c.args.values.now c.args.j) (signal_in c.args.sizes c.args.reference.now) c.args.sizes.outputs

pub lanes_at-requires : goal.lanes_at-requires
lanes_at-requires c = omega (arith, c.signal_of-signal.ensures.there, c.requires.1)

pub overflow_mul-word : goal.overflow_mul-word
overflow_mul-word c =
    let l = c.loop-k in
    let value = value_in c.args.values.now c.args.j in
    omega (
      arith,
      l.invariant,
      word_few value (signal_in c.args.sizes c.args.reference.now) c.args.sizes.outputs l.k (value_small c.args.values.now c.args.j)
          (omega (arith, c.requires.0.within.outputs_in_holds)),
    )

pub overflow_add-word : goal.overflow_add-word
overflow_add-word c =
    let l = c.loop-k in
    let value = value_in c.args.values.now c.args.j in
    omega (
      arith,
      l.invariant,
      word_few value (signal_in c.args.sizes c.args.reference.now) c.args.sizes.outputs l.k (value_small c.args.values.now c.args.j)
          (omega (arith, c.requires.0.within.outputs_in_holds)),
    )

pub loop-k-preserved : goal.loop-k-preserved
unfolding level_in
loop-k-preserved c =
    let l = c.loop-k in
    let value = value_in c.args.values.now c.args.j in
    let is : level_in c.args.j c.lanes_at.result ≡ value (signal_in c.args.sizes c.args.reference.now (l.k - 1)) =
    ap (level_in c.args.j) c.lanes_at.ensures ∙ sym (level_at c.args.j c.args.values.now c.signal_of-signal.result)
    ∙ ap value c.signal_of-signal.ensures.is in
    ap (λ (x : ℕ). x + 2 * l.word) is
    ∙ word_more value (signal_in c.args.sizes c.args.reference.now) c.args.sizes.outputs l.k l.word (omega arith) (omega arith) l.invariant

pub returns : goal.returns
unfolding signals_in
returns c =
    let l = c.loop-k in
    let e : l.k ≡ 0 = omega arith in
    l.invariant ∙ ap (word_from (value_in c.args.values.now c.args.j) (signal_in c.args.sizes c.args.reference.now) c.args.sizes.outputs) e
