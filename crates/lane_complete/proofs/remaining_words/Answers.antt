-- `lane_complete::remaining_words` meets its contract. The loop's invariant: in a word that is not named, with one of the first i inputs kept not all
-- outputs are NULL. Assumes nothing.
use Prim.Native.Nat.{◌<◌}
use native.Mathlib.Omega.{arith}
use mathlib.Core.Path.{refl, ◌∙◌}
use Rattle.runs.specs.Pair.{AllNull}
use Rattle.circuit.specs.Stage.{net_count, stage_in}
use Rattle.circuit.specs.Rows.{row_size}
use Rattle.lane_settle.specs.Block.{net_in}
use Rattle.lane_screen.proofs.Gathering.{gathered_more}
use Rattle.lane_screen.proofs.Tests.{finds_no_remaining}
use Rattle.lane_complete.specs.Rows.{remaining_in}
use Rattle.lane_complete.proofs.Inputs.{all_low_holds, rest_rows}
use Rattle.lane_complete.proofs.remaining_words.Goals as goal

pub spell_rails-requires : goal.spell_rails-requires
spell_rails-requires c =
    let within = c.requires.0.within in
    let room : net_count c.args.counts < row_size = omega (arith, within.inputs_in, within.gates_in_holds) in
    (within.inputs_in, room, (all_low_holds c.args.counts row_size room).ground)

pub loop-i-init : goal.loop-i-init
loop-i-init c =
    let counts = c.args.counts in
    let code = c.args.code.now in
    let within = c.requires.0.within in
    let settle = c.settle_gates in
    let spell = c.spell_rails in (
      settle.ensures.long ∙ spell.ensures.long,
      (settle.ensures.settled _ (rest_rows counts code c.args.b) (spell.ensures.spelled code c.requires.1)).nets,
      refl,
      all_low_holds counts row_size (omega (arith, within.inputs_in, within.gates_in_holds)),
      λ j d e k h. absurd (omega arith),
    )

pub loop-i-preserved : goal.loop-i-preserved
loop-i-preserved c =
    let l = c.loop-i in
    let b = c.args.b in
    let found = c.keeping_input-words in (
      l.invariant.0,
      l.invariant.1,
      found.ensures.long ∙ l.invariant.2,
      found.ensures.low b l.invariant.1,
      gathered_more (λ j k. ¬ (AllNull (net_in c.args.counts c.args.code.now) (remaining_in c.args.counts c.args.code.now b k j))) _ l.i _ l.invariant.4
          (found.ensures.words b l.invariant.1),
    )

pub returns : goal.returns
returns c reference j d e =
    let l = c.loop-i in
    finds_no_remaining (stage_in c.args.counts c.args.code.now) reference _ (λ k h. l.invariant.4 j d e k (omega arith))
