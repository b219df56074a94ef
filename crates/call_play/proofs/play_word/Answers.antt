-- `call_play::play_word` meets its contract. Assumes nothing.
use native.Mathlib.Omega.{arith}
use mathlib.Core.Path.{sym, ap, ◌∙◌, subst}
use lib.Seq.{length-take-le}
use Rattle.circuit.specs.Rows.{RowFor}
use Rattle.circuit.proofs.Settling.{low_row}
use Rattle.circuit_steps.specs.Moves.{row_in}
use Rattle.circuit_steps.proofs.Goals.{low_levels, spelt}
use Rattle.call_play.proofs.Steps.{steps_few, played_short, played_unended, played_on}
use Rattle.call_play.proofs.play_word.Goals as goal

pub spell_word-requires : goal.spell_word-requires
spell_word-requires c = low_row c.args.counts c.requires.0.within

pub slice_bounds-take_steps-end-2 : goal.slice_bounds-take_steps-end-2
slice_bounds-take_steps-end-2 c = sym (length-take-le _ c.args.list.now c.fall_begins-rise.ensures.within)

pub take_steps-taken-requires : goal.take_steps-taken-requires
take_steps-taken-requires c = (c.requires.0, c.spell_word.ensures.row, subst (RowFor c.args.counts) (sym c.requires.1) (low_row c.args.counts c.requires.0.within))

pub returns-then-taken-rise : goal.returns-then-taken-rise
returns-then-taken-rise c =
    let n = c.args.counts in
    let s = c.spell_word.ensures in
    let start = ap (row_in n) c.requires.1 ∙ low_levels n in
    let t = c.take_steps-taken.ensures in
    let f = c.fall_begins-rise.ensures in
    played_short c.args.fall c.args.list.now _ f n c.args.code.now c.args.w _ (spelt n _ s.row c.args.w s.rails) _ _ start _ t c.if-taken-rise.true

pub has_ended-requires : goal.has_ended-requires
has_ended-requires c = (c.requires.0, c.spell_word.ensures.row, c.take_steps-taken.ensures.row_for_holds)

pub take_steps-requires : goal.take_steps-requires
take_steps-requires c = (c.requires.0, low_row c.args.counts c.requires.0.within, c.take_steps-taken.ensures.row_for_holds)

pub overflow_add-result : goal.overflow_add-result
overflow_add-result c =
    omega (arith, steps_few c.args.fall c.args.list.now _ c.fall_begins-rise.ensures c.take_steps-taken.ensures c.take_steps.ensures)

pub returns-then-has_ended : goal.returns-then-has_ended
returns-then-has_ended c =
    let n = c.args.counts in
    let s = c.spell_word.ensures in
    let start = ap (row_in n) c.requires.1 ∙ low_levels n in
    let t = c.take_steps-taken.ensures in
    let f = c.fall_begins-rise.ensures in
    played_on c.args.fall c.args.list.now _ f n c.args.code.now c.args.w _ (spelt n _ s.row c.args.w s.rails) _ _ start _ t (λ h. omega (arith, c.if-taken-rise.false)) _ c.has_ended.ensures c.if-has_ended.true _ (low_levels n) _ _ c.take_steps.ensures

pub returns : goal.returns
returns c =
    let n = c.args.counts in
    let s = c.spell_word.ensures in
    let start = ap (row_in n) c.requires.1 ∙ low_levels n in
    let t = c.take_steps-taken.ensures in
    let f = c.fall_begins-rise.ensures in
    played_unended c.args.fall c.args.list.now _ f n c.args.code.now c.args.w _ (spelt n _ s.row c.args.w s.rails) _ _ start _ t (λ h. omega (arith, c.if-taken-rise.false)) _ c.has_ended.ensures c.if-has_ended.false
