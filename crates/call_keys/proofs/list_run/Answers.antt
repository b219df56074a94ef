-- `call_keys::list_run` meets its contract. Assumes nothing.
use native.Mathlib.Omega.{arith}
use Rattle.circuit.proofs.Settling.{low_row}
use Rattle.circuit_steps.proofs.Goals.{spelt}
use Rattle.run_spec.specs.Keys.{key_in}
use Rattle.write_run.proofs.Listing.{put_both}
use Rattle.call_keys.proofs.Runs.{listed_few, part_keys, part_room, rise_listed, fall_listed}
use Rattle.call_keys.proofs.list_run.Goals as goal

pub spell_word-requires : goal.spell_word-requires
spell_word-requires c = low_row c.args.counts c.requires.0.within

pub list_by_keys-rise-requires : goal.list_by_keys-rise-requires
list_by_keys-rise-requires c =
    (c.requires.0, c.spell_word.ensures.row, low_row c.args.counts c.requires.0.within, omega (arith, c.requires.1), omega (arith, c.requires.2))

pub list_by_keys-count-requires : goal.list_by_keys-count-requires
list_by_keys-count-requires c =
    let x = c.list_by_keys-rise.ensures in
    let few = listed_few c.args.counts c.args.code.now _ (key_in c.args.keys.now) _ _ _ _ _ _ x.listed in (
      c.requires.0,
      low_row c.args.counts c.requires.0.within,
      x.row,
      part_room c.args.counts c.args.code.now c.args.keys.now c.requires.1,
      omega (arith, c.requires.2, few, c.list-1.given),
    )

pub returns : goal.returns
returns c =
    let n = c.args.counts in
    let code = c.args.code.now in
    let keys = c.args.keys.now in
    let s = c.spell_word.ensures in
    let x = rise_listed n code keys c.args.w _ _ _ _ _ (spelt n _ s.row c.args.w s.rails) c.list_by_keys-rise.ensures.listed in
    let y = fall_listed n code keys c.args.w _ _ _ _ _ _ _ (part_keys n code keys c.requires.1) x.row_is c.list_by_keys-count.ensures.listed in
    put_both x y
